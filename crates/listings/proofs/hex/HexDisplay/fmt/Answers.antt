use Rattle.std.proofs.Common.{[], false, Some, ◌≡◌, ◌<◌, ◌+◌, ◌++◌, take, get_or, ap, sym, ◌∙◌, refl, rules}
use Rattle.std.proofs.lemmas.Fmt.{hex_byte}
use Rattle.std.proofs.lemmas.List.{take_more, flat_map_more}
use Rattle.std.proofs.Output.{has_written_append, has_written_of_eq}
use Rattle.std.specs.Fmt.{styled_digits_output}
use Rattle.listings.specs.Texts.{hex_text, byte_text}
use Rattle.listings.proofs.hex.HexDisplay.fmt.Goals as goal

pub loop-byte-preserved : goal.loop-byte-preserved
loop-byte-preserved g c p =
    let bs = c.args.self.now.0.now in
    let i = c.loop-byte.byte-index in
    let b = get_or bs i 0 in
    let low : b < 256 = search rules in
    let text : styled_digits_output c.in_radix.result c.laid_out.result ≡ Some (byte_text b) = rw (c.laid_out.ensures, c.in_radix.ensures, hex_byte false b low) refl in
    let wrote = rw text at c.write.ensures.writes in
    let more : hex_text (take i bs) ++ byte_text b ≡ hex_text (take (i + 1) bs) = flat_map_more byte_text [] (take i bs) b ∙ ap hex_text (sym (take_more bs i 0 c.loop-byte-test.true)) in
    has_written_of_eq _ _ _ _ _ more (has_written_append _ _ _ _ _ _ (c.loop-byte.invariant p) (search rules))
