-- A member that is kept is sound.
use Rattle.std.proofs.Common.{◌≡◌, ◌≤◌, true, List, length, is_some, ap}
use Rattle.std.specs.List.{AllByRecursion}
use Rattle.board.specs.Boards.{backgrounds, ancestries}
use Rattle.board.specs.Sorting.{Rises}
use Rattle.board.specs.declared.open.Open.{Open}
use Rattle.asked.specs.Rows.{Fitting}
use Rattle.hosted.specs.Keeping.{head_of, rows_of}
use Rattle.hosted.specs.Members as hosted
use Rattle.verifier.specs.Seats.{allowed}
use Rattle.driven.specs.Members.{Sound, asks_of, kept_as, or_none}
use Rattle.driven.specs.declared.member.Member.{Member}
use Rattle.driven.proofs.Asks.{all_few, asks_back}

module _ (m : Member) (s : hosted.Values) (os : List Open) (rises : Rises os) (fit : AllByRecursion Fitting os) (b : length (backgrounds os) ≤ 256) (a : length (ancestries os) ≤ 64) where
  pub asks_kept : asks_of (kept_as s os m) ≡ os
  asks_kept = ap or_none (asks_back os m.asks rises fit b a)

  pub member_kept : hosted.Sound (head_of s m.head) (rows_of s m.rows) → allowed m.head.seats m.head.quorum ≡ true → Sound (kept_as s os m)
  member_kept sound seats = record {
    state = record {
      rowed = record {
        term = sound.rowed.term;
        replaying = sound.rowed.replaying;
        finalization = sound.rowed.finalization;
        nullifications = sound.rowed.nullifications;
        certified = sound.rowed.certified;
        pending = sound.rowed.pending;
        failed = sound.rowed.failed;
      };
      lawful = sound.lawful;
    };
    seats = seats;
    count = all_few os b a;
    asks = ap is_some (asks_back os m.asks rises fit b a);
  }
