use Rattle.std.proofs.Common.{◌∙◌, ◌++◌, ◌∷◌, [], length, rules, sym, ap, subst}
use Rattle.lot_litmus.specs.declared.search.Looked.TheVariants as looked
use Rattle.lot_litmus.specs.Search.{Grows, HasLooked}
use Rattle.lot_litmus.proofs.SearchLemmas.{looked-more}
use Rattle.lot_litmus.proofs.search.Search.look.Goals as goal

pub returns-in_ok-push_leads-in-Leads : goal.returns-in_ok-push_leads-in-Leads
returns-in_ok-push_leads-in-Leads c =
    let (grows, same, looks) = c.in_ok-leads.ensures in
    let (states, pushed) = c.in_ok-push_leads-in-Leads.ensures in
    λ _. looked-more c.args.test.now c.args.self.now c.push_leads.new.self c.in-Leads.leads c.requires.search
    c.requires.within (subst (Grows c.args.self.now.states.items) (sym states) grows)
    (pushed ∙ ap (λ leads. leads ++ c.in-Leads.leads ∷ []) same)
    (subst (λ new. HasLooked c.args.test.now c.args.self.now.states.items new (length c.args.self.now.leads.items)
    (looked.Leads c.in-Leads.leads)) (sym states)
    (subst (HasLooked c.args.test.now c.args.self.now.states.items c.look_at.new.self.states.items
    (length c.args.self.now.leads.items)) c.in-Leads.is
    (subst (λ index. HasLooked c.args.test.now c.args.self.now.states.items c.look_at.new.self.states.items index
    c.in_ok-leads.field-0) (search (rules, c.len.ensures, c.in-Ok.is)) looks)))
