use Rattle.std.proofs.Common.{◌<◌, subst}
use Rattle.state.specs.States.{held}
use Rattle.lawful.specs.Lawful.{Lawful}
use Rattle.hosted.proofs.Kept.{kept_values, kept_sound}
use Rattle.hosted.proofs.keeping.keep.Goals as goal

pub returns-clause-values : goal.returns-clause-values
returns-clause-values c = rw (c.keep_head.ensures, c.keep_rows.ensures) (kept_values (held c.args.state.now) c.args.head.now c.args.rows.now)

pub returns-clause-sound : goal.returns-clause-sound
returns-clause-sound c same =
    let s = c.args.state.now in
    rw (c.keep_head.ensures, c.keep_rows.ensures) (kept_sound (held s) c.args.head.now c.args.rows.now (subst (λ n. 0 < n) same s.store.term_length.positive) s.store.nullifications.rises s.store.pending_notarizations.rises s.store.certified_notarizations.rises s.store.uncertifiable_notarizations.rises (subst (λ n. Lawful n (held s)) same s.lawful))
