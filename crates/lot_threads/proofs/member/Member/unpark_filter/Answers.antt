use Rattle.lot_threads.proofs.member.Member.unpark_filter.Goals as goal

-- what the closures answered, and no word of when the callback was called
pub returns-clause-unparked : goal.returns-clause-unparked
returns-clause-unparked g c =
    let told = c.unpark_filter_within.ensures.unparked in
    record {
      decisions = told.decisions;
      token = told.token;
      extends = told.extends;
      found = told.found;
      calls = record { decided = told.calls.decided; called = told.calls.called.1 };
    }
