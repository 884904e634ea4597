-- Whether a case holds: by what the calls record and what their effects make of the asks, and by the words of the history.
use Rattle.std.specs.Prelude.{ℕ, ◌+◌, Bool, true, false, not, ◌&&◌, List, [], ◌∷◌, is_none, is_ok, Some, None, filter, Option, ◌==◌, nat_eq}
use lib.Pointwise.{pointwise}
use Rattle.std.specs.List.{list_all}
use Rattle.board.specs.Asks.{is_background, same_kind}
use Rattle.board.specs.declared.open.Open.{Open}
use Rattle.effects.specs.declared.effect.Effect.{Effect}
use Rattle.effects.specs.declared.effect.Effect.TheVariants.{Fetch, Settled, Finalized, Raised}
use Rattle.effects.specs.declared.effect.FetchReason.{FetchReason}
use Rattle.effects.specs.declared.effect.FetchReason.TheVariants.{MissingNullification, CertificationFailed}
use Rattle.history.specs.Calls as word
use Rattle.history.specs.Rules.{evidence_rule, verdict_rule, marker_rule}
use Rattle.planning.specs.Gaps.{span}
use Rattle.record.specs.Certificates.{kind_in}
use Rattle.record.specs.Kinds.{byte_of}
use Rattle.record.specs.declared.certificate.Certificate.{Certificate}
use Rattle.state.specs.Serving.{served}
use Rattle.terms.specs.Terms as terms
use Rattle.cases.specs.Records.{view_in}
use Rattle.cases.specs.Run.{first, values_after, last_effects, asks_after}
use Rattle.cases.specs.Table.{four, Case, term, covers, effects, asks, serves}

abbrev same_reason : FetchReason → FetchReason → Bool
same_reason MissingNullification MissingNullification = true
same_reason CertificationFailed CertificationFailed = true
same_reason r s = false

abbrev pub same_effect : Effect → Effect → Bool
same_effect (Fetch v c r) (Fetch w d s) = v == w && (c == d && same_reason r s)
same_effect (Settled k a b) (Settled j c d) = same_kind k j && (a == c && b == d)
same_effect (Finalized v) (Finalized w) = v == w
same_effect (Raised v) (Raised w) = v == w
same_effect d e = false

-- two records have one kind and one view, or there are none
abbrev pub same_record : Option Certificate → Option Certificate → Bool
same_record (Some c) (Some d) = byte_of (kind_in c) == byte_of (kind_in d) && view_in c == view_in d
same_record None None = true
same_record c d = false

-- an open ask is a background ask at a view
abbrev pub is_ask_at : Open → ℕ → Bool
is_ask_at o v = o.view == v && (is_background o.ask && is_none o.target)

-- the words of the history bear out an effect
abbrev pub bears_out : List (word.Call Certificate) → Effect → Bool
bears_out h (Fetch v c r) = word.marked h && word.needed view_in kind_in four v h
bears_out h (Settled k a b) = list_all (λ v. word.settles view_in kind_in four k v h) (span a (b + 1))
bears_out h (Finalized v) = word.finalized view_in kind_in h == v
bears_out h (Raised v) = word.floor view_in kind_in h == v

-- the views from 1 to 20 that must be asked for
abbrev pub needed : List (word.Call Certificate) → List ℕ
needed h = filter (λ v. word.marked h && word.needed view_in kind_in four v h) (span 1 21)

-- these views have background asks, no other ask is open, and these views are needed
abbrev pub asked_at : List ℕ → List (word.Call Certificate) → Bool
asked_at vs h = pointwise is_ask_at (asks_after h) vs && pointwise nat_eq (needed h) vs

abbrev pub holds : Case → Bool
holds (term v s e n) = terms.start four v == s && (terms.end four v == e && terms.next four v == n)
holds (covers u these those) = list_all (terms.covering four u) these && list_all (λ v. not (terms.covering four u v)) those
holds (effects n es vs) = pointwise same_effect (last_effects (first n)) es && (list_all (bears_out (first n)) es && asked_at vs (first n))
holds (asks n vs) = asked_at vs (first n)
holds (serves n v found) = same_record (served four v (values_after (first n))) found && same_record (word.serves view_in kind_in four v (first n)) found

abbrev pub all_hold : List Case → Bool
all_hold cs = list_all holds cs

-- the rules accept each of some calls, by those before it; the run has no requests
abbrev pub accepted : List (word.Call Certificate) → Bool
accepted [] = true
accepted (word.evidence x ∷ h) = is_ok (evidence_rule view_in kind_in four x h) && accepted h
accepted (word.verdict b x ∷ h) = is_ok (verdict_rule view_in kind_in four b x h) && accepted h
accepted (word.marker ∷ h) = is_ok (marker_rule view_in kind_in four h) && accepted h
accepted (word.request v k t ∷ h) = false
