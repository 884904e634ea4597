use Rattle.std.proofs.Common.{◌≡◌, not, length, ap, rules, tests}
use Rattle.std.specs.List.{position}
use Rattle.std.specs.Option.{unwrap_or}
use Rattle.std.proofs.lemmas.Iterator.{YieldsList-from_slice}
use Rattle.std.proofs.lemmas.Iterator.Search.{position_from_yields_List}
use Rattle.words.proofs.Runs.{first_outside}
use Rattle.words.proofs.class.run.Goals as goal

pub returns-clause-value : goal.returns-clause-value
returns-clause-value g c =
    let p = g.C.Class.member c.args.class.now in
    let bs = c.args.bytes.now in
    let found : c.position.result ≡ position (λ b. not (p b)) bs = position_from_yields_List (λ b. not (p b)) _ _ c.position.result c.position.ensures.ran (YieldsList-from_slice bs c.iter.ensures.rest) (λ x b q k. search (rules, tests)) in
    let value = ap (λ r. unwrap_or r (length bs)) found in
    let whole = first_outside p bs in
    cc
