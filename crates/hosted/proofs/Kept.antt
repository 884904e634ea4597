-- What is kept says the same, and is sound.
use Rattle.std.proofs.Common.{◌≡◌, ℕ, ◌<◌, ◌≤◌, Bool, true, false, cond, List, length, take, drop, Some, None, Option, is_some, eqb, sym, subst, refl, arith, length-append}
use Rattle.std.proofs.Math.Seq.{take-append_seam}
use Rattle.slot.specs.Slots.{first_of}
use Rattle.kept.specs.Keeping.{view_in}
use Rattle.kept.specs.declared.row.Kept.{Kept}
use Rattle.store.specs.Values.{mark_view}
use Rattle.table.specs.Rows.{Ascending, Resumable}
use Rattle.lawful.specs.Lawful.{Lawful}
use Rattle.hosted.specs.declared.member.Head.{Head}
use Rattle.hosted.specs.declared.member.Rows.{Rows}
use Rattle.hosted.specs.Keeping.{head_of, rows_of, over, if_some}
use Rattle.hosted.specs.Members.{Values, values_in, Sound}

flag : (b : Bool) → eqb (cond b 1 0) 1 ≡ b
flag true = refl
flag false = refl

low : (b : Bool) → cond b 1 0 ≤ 1
low true = omega arith
low false = omega arith

finalization : (f : Option Kept) (place : List Kept) → cond (eqb (cond (is_some f) 1 0) 1) (first_of (if_some f place)) None ≡ f
finalization None place = refl
finalization (Some x) place = refl

back : {X : Type 0} (rs places : List X) → take (length rs) (over rs places) ≡ rs
back rs places = take-append_seam rs (drop (length rs) places)

pub kept_values : (s : Values) (h : Head) (r : Rows) → values_in (head_of s h) (rows_of s r) ≡ s
kept_values s h r = rw (flag s.replaying, finalization s.finalization r.finalization, back s.nullifications r.nullifications, back s.pending r.pending, back s.certified r.certified, back s.failed r.failed) refl

resumes : {X : Type 0} (at : X → ℕ) (rs places : List X) → Ascending at rs → Resumable at (length rs) (over rs places)
resumes at rs places asc = record {
  fits = omega (arith, length-append rs (drop (length rs) places));
  rises = subst (Ascending at) (sym (back rs places)) asc;
}

pub kept_sound : (s : Values) (h : Head) (r : Rows) → 0 < h.term_length → Ascending view_in s.nullifications → Ascending mark_view s.pending → Ascending view_in s.certified → Ascending mark_view s.failed → Lawful h.term_length s → Sound (head_of s h) (rows_of s r)
kept_sound s h r positive n p c f lawful = record {
  rowed = record {
    term = positive;
    replaying = low s.replaying;
    finalization = low (is_some s.finalization);
    nullifications = resumes view_in s.nullifications r.nullifications n;
    certified = resumes view_in s.certified r.certified c;
    pending = resumes mark_view s.pending r.pending p;
    failed = resumes mark_view s.failed r.failed f;
  };
  lawful = subst (Lawful h.term_length) (sym (kept_values s h r)) lawful;
}
