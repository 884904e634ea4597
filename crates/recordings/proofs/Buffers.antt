-- What a buffer holds.
use Rattle.std.proofs.Common.{◌≡◌, ℕ, List, [], Some, subst, sym}
use Rattle.replies.specs.Replies.{Wrote}

-- what was written to an empty buffer is what it holds
pub in_buffer : (Is : List ℕ → Type 0) (before after : List ℕ) → Wrote (Some before) (Some after) Is → before ≡ [] → Is after
in_buffer Is before after wrote empty = subst Is (sym (rw empty at wrote.written)) wrote.told
