use Rattle.examples.proofs.EndLemmas.{end-done}
use Rattle.examples.proofs.recording.end_park.Goals as goal

pub unwrap-requires : goal.unwrap-requires
unwrap-requires c =
    end-done c.args.recorded.now c.step.new.self c.args.thread c.step.result c.consistency.ensures
    c.ends_have_room.ensures.room c.step.ensures
