use Rattle.std.proofs.Common.{◌≡◌, ◌/◌, map, length, refl, ap, ◌∙◌, rules}
use Rattle.std.specs.Simd.{first_chunks}
use Rattle.words.specs.Hex.{decoded}
use Rattle.words.proofs.Pairs.{pair_byte, decoded_pairs}
use Rattle.words.proofs.decode.decode.Goals as goal

pub returns : goal.returns
returns c =
    let word = c.args.word.now in
    let pairs : c.as_chunks.result.0.now ≡ first_chunks 2 (length word / 2) word = c.as_chunks.ensures.front in
    let same : map pair_byte c.as_chunks.result.0.now ≡ decoded word = ap (map pair_byte) pairs ∙ decoded_pairs _ word refl in
    rw (← same) (search rules)
