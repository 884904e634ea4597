-- What stands in the places before a member has recorded anything.
use Rattle.std.specs.Prelude.{replicate}
use Rattle.effects.specs.declared.Effect.TheVariants.{Finalized}
use Rattle.places.specs.declared.Places.{Places}
use Rattle.queue.specs.declared.message.Message.TheVariants.{Replayed}
use Rattle.record.specs.declared.certificate.Certificate.{Certificate}
use Rattle.record.specs.declared.certificate.Certificate.TheVariants.{Nullification}
use Rattle.table.specs.declared.Mark.{Mark}

-- a record of view 0
abbrev pub blank : Certificate
blank = Nullification (record { epoch = 0; view = 0 }) (record { 0 = replicate 32 0 })

-- a mark of view 0
abbrev pub no_mark : Mark
no_mark = record { view = 0 }

abbrev pub unused : Places
unused = record {
  finalization = replicate 1 blank;
  nullifications = replicate 128 blank;
  pending_notarizations = replicate 128 no_mark;
  certified_notarizations = replicate 128 blank;
  uncertifiable_notarizations = replicate 128 no_mark;
  effects = replicate 256 (Finalized 0);
  queued_finalization = replicate 1 Replayed;
  queued = replicate 64 Replayed;
}
