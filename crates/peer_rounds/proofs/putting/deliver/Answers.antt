use Rattle.peer_rounds.proofs.putting.deliver.Goals as goal

pub returns-clause-lives : goal.returns-clause-lives
returns-clause-lives g c = λ l.
    let after = c.deliver.ensures.every_history_goes_on l.going l.verifier l.calls l.reached in
    record { going = l.going; calls = _; verifier = l.verifier; reached = after.reached }
