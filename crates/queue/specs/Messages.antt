-- What one message tells, and what two have in common.
use Rattle.std.specs.Prelude.{ℕ, Bool, true, false, ◌&&◌, ◌||◌, ◌==◌, is_none, None, nat_lt}
use Rattle.effects.specs.declared.effect.Kind.{Kind as Ask}
use Rattle.effects.specs.declared.effect.Kind.TheVariants.{Nullification as AskNullification, Notarization as AskNotarization}
use Rattle.record.specs.declared.kind.Kind.{Kind}
use Rattle.record.specs.declared.kind.Kind.TheVariants.{Notarization, Nullification, Finalization}
use Rattle.queue.specs.declared.message.Message.{Message}
use Rattle.queue.specs.declared.message.Message.TheVariants.{Updated, Certified, Resolve, Replayed}

-- the marker has no view
abbrev pub view_of : {P : Type 0} → Message P → ℕ
view_of (Updated k v p) = v
view_of (Certified k v s p) = v
view_of (Resolve w v k t) = v
view_of Replayed = 0

abbrev pub is_marker : {P : Type 0} → Message P → Bool
is_marker (Updated k v p) = false
is_marker (Certified k v s p) = false
is_marker (Resolve w v k t) = false
is_marker Replayed = true

abbrev pub is_finalization : {P : Type 0} → Message P → Bool
is_finalization (Updated Notarization v p) = false
is_finalization (Updated Nullification v p) = false
is_finalization (Updated Finalization v p) = true
is_finalization (Certified k v s p) = false
is_finalization (Resolve w v k t) = false
is_finalization Replayed = false

-- whether it waits on where a view is finalized
abbrev pub stays_past : {P : Type 0} → ℕ → Message P → Bool
stays_past v m = is_marker m || nat_lt v (view_of m)

abbrev pub same_kind : Kind → Kind → Bool
same_kind Notarization Notarization = true
same_kind Nullification Nullification = true
same_kind Finalization Finalization = true
same_kind k l = false

abbrev pub same_ask : Ask → Ask → Bool
same_ask AskNullification AskNullification = true
same_ask AskNotarization AskNotarization = true
same_ask k l = false

-- whether two say the same, but for a request's target: evidence of one kind and view, verdicts at one view, or
-- requests of one proposal, view and kind
abbrev pub repeats : {P : Type 0} → Message P → Message P → Bool
repeats (Updated k v p) (Updated l w q) = same_kind k l && v == w
repeats (Certified k v s p) (Certified l w t q) = v == w
repeats (Resolve a v k t) (Resolve b w l u) = a == b && v == w && same_ask k l
repeats m o = false

-- whether it is a request with no target
abbrev pub asks_all : {P : Type 0} → Message P → Bool
asks_all (Updated k v p) = false
asks_all (Certified k v s p) = false
asks_all (Resolve w v k t) = is_none t
asks_all Replayed = false

abbrev pub widened : {P : Type 0} → Message P → Message P
widened (Updated k v p) = Updated k v p
widened (Certified k v s p) = Certified k v s p
widened (Resolve w v k t) = Resolve w v k None
widened Replayed = Replayed
