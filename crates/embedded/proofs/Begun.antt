-- A fresh member is sound, and nothing is recorded.
use Rattle.std.proofs.Common.{◌≡◌, ℕ, ◌<◌, true, List, [], sym, subst, refl, arith}
use Rattle.table.specs.Rows.{Resumable}
use Rattle.store.specs.Fresh.{fresh}
use Rattle.state.proofs.Facts.{fresh_lawful}
use Rattle.lawful.specs.Lawful.{Lawful}
use Rattle.verifier.specs.Seats.{allowed}
use Rattle.asked.specs.Lists.{appending}
use Rattle.driven.specs.Members.{Sound, values_of, asks_of}
use Rattle.driven.specs.declared.member.Member.{Member}
use Rattle.embedded.specs.Beginning.{begun}

no_rows : {X : Type 0} (at : X → ℕ) (rs : List X) → Resumable at 0 rs
no_rows at rs = record { fits = omega arith; rises = λ i j h l. absurd (omega arith) }

nothing : (L e n q : ℕ) (m : Member) → values_of (begun L e n q m) ≡ fresh
unfolding fresh
nothing L e n q m = refl

pub begun_sound : (L e n q : ℕ) (m : Member) → 0 < L → allowed n q ≡ true → Sound (begun L e n q m) × (values_of (begun L e n q m) ≡ fresh) × (asks_of (begun L e n q m) ≡ [])
unfolding appending
begun_sound L e n q m positive seats = (
  record {
    state = record {
      rowed = record {
        term = positive;
        replaying = omega arith;
        finalization = omega arith;
        nullifications = no_rows _ m.rows.nullifications;
        certified = no_rows _ m.rows.certified;
        pending = no_rows _ m.rows.pending;
        failed = no_rows _ m.rows.failed;
      };
      lawful = subst (Lawful L) (sym (nothing L e n q m)) (fresh_lawful L);
    };
    seats = seats;
    count = omega arith;
    asks = refl;
  },
  nothing L e n q m,
  refl,
)
