use Rattle.std.proofs.Common.{◌≡◌, true, get_or, Ok, sym, ap, ◌∙◌, rules}
use Rattle.std.proofs.lemmas.List.{take_rest}
use Rattle.record.specs.Format.{body_read}
use Rattle.record.specs.Kinds.{kind_of}
use Rattle.record.specs.Numbers.{part, zeros}
use Rattle.record.proofs.Laws.{opened}
use Rattle.record.proofs.reading.parse.Goals as goal

pub returns : goal.returns
returns c =
    let bytes = c.args.bytes.now in
    let kind = c.in_ok-kind.kind in
    let known : kind_of (get_or bytes 0 0) ≡ Ok kind = search rules in
    let clear : zeros (part 1 7 bytes) ≡ true = search rules in
    c.body.ensures ∙ ap (body_read kind) (take_rest bytes 8) ∙ sym (opened bytes kind (search rules) clear known)
