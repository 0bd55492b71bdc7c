-- What the contracts of a titled read-write lock say.
use Rattle.lock_words.specs.declared.phases.Hand.{Hand}
use Rattle.parking_lot.specs.Phasers.{Leads}
use Rattle.parking_lot.specs.declared.phaser.titled.TitledPhaser.{TitledPhaser}
use Rattle.parking_lot.specs.declared.queue_title.QueueKey.{QueueKey}
use Rattle.parking_lot.specs.declared.queue_title.QueueTitle.{QueueTitle}

-- a thread that leads the phase of this phaser
abbrev pub LeadsIn : TitledPhaser → Hand QueueTitle QueueKey → Type 0
LeadsIn phaser = Leads phaser.phases
