use Rattle.std.proofs.Common.{◌≡◌, ◌∙◌, rules, tests}
use Rattle.std.specs.List.{list_all}
use Rattle.std.proofs.lemmas.Iterator.{YieldsList-from_slice}
use Rattle.std.proofs.lemmas.Iterator.Search.{all_from_yields_List}
use Rattle.words.proofs.Runs.{all_inside}
use Rattle.words.proofs.class.all.Goals as goal

pub returns : goal.returns
returns g c =
    let p = g.C.Class.member c.args.class.now in
    let told : c.all.result ≡ list_all p c.args.bytes.now = all_from_yields_List p _ _ c.all.result c.all.ensures.ran (YieldsList-from_slice c.args.bytes.now c.iter.ensures.rest) (λ x b q k. search (rules, tests)) in
    told ∙ all_inside p _
