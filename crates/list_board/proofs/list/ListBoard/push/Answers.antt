use Rattle.std.proofs.Common.{arith, ◌<◌, length}
use Rattle.std.proofs.lemmas.List.{length-take-le, length-set}
use Rattle.board.specs.declared.open.Open.{Open}
use Rattle.list_board.specs.Lists.{entries}
use Rattle.list_board.specs.declared.list.ListBoard.{ListBoard}
use Rattle.list_board.proofs.Entries.{Room, Kept, room_for, pushed_list}
use Rattle.list_board.proofs.list.ListBoard.push.Goals as goal

kept_by : (s : ListBoard) → Kept (entries s)
kept_by s = record { apart = s.apart; background_few = s.background_few; ancestry_few = s.ancestry_few }

within : (s : ListBoard) (o : Open) → Room o (entries s) → s.len < length s.list.now
within s o r = omega (arith, room_for o (entries s) (kept_by s) r, length-take-le s.len s.list.now s.fits, s.enough)

pub bounds-self-len : goal.bounds-self-len
bounds-self-len c =
    within c.args.self.now c.args.asked (record { absent = c.requires.absent; background = c.requires.background_room; ancestry = c.requires.ancestry_room })

pub invariant_of-self : goal.invariant_of-self
invariant_of-self c =
    let s = c.args.self.now in
    let r : Room c.args.asked (entries s) = record { absent = c.requires.absent; background = c.requires.background_room; ancestry = c.requires.ancestry_room } in
    let room = within s c.args.asked r in
    let p = pushed_list c.args.asked s.list.now s.len room (kept_by s) r in
    record {
      fits = omega (arith, room, length-set s.list.now s.len c.args.asked);
      enough = omega (arith, s.enough, length-set s.list.now s.len c.args.asked);
      apart = p.0.apart;
      background_few = p.0.background_few;
      ancestry_few = p.0.ancestry_few;
    }

pub returns : goal.returns
returns c =
    let s = c.args.self.now in
    let r : Room c.args.asked (entries s) = record { absent = c.requires.absent; background = c.requires.background_room; ancestry = c.requires.ancestry_room } in
    (pushed_list c.args.asked s.list.now s.len (within s c.args.asked r) (kept_by s) r).1
