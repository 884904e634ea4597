use Rattle.terms.specs.Terms.{views}
use Rattle.planning.proofs.Cursors.{cursor_lands, no_anchor_skipped, only_anchors}
use Rattle.planning.proofs.fetch_missing.Goals as goal

pub returns-in_err-gap-items-clause-cursor_lands : goal.returns-in_err-gap-items-clause-cursor_lands
returns-in_err-gap-items-clause-cursor_lands g c = cursor_lands (views c.args.term_length) c.args.term_length.positive

pub returns-in_err-gap-items-clause-no_anchor_skipped : goal.returns-in_err-gap-items-clause-no_anchor_skipped
returns-in_err-gap-items-clause-no_anchor_skipped g c = no_anchor_skipped (views c.args.term_length) c.args.term_length.positive

pub returns-in_err-gap-items-clause-only_anchors : goal.returns-in_err-gap-items-clause-only_anchors
returns-in_err-gap-items-clause-only_anchors g c = only_anchors (views c.args.term_length) c.args.term_length.positive

pub returns-clause-cursor_lands : goal.returns-clause-cursor_lands
returns-clause-cursor_lands g c = cursor_lands (views c.args.term_length) c.args.term_length.positive

pub returns-clause-no_anchor_skipped : goal.returns-clause-no_anchor_skipped
returns-clause-no_anchor_skipped g c = no_anchor_skipped (views c.args.term_length) c.args.term_length.positive

pub returns-clause-only_anchors : goal.returns-clause-only_anchors
returns-clause-only_anchors g c = only_anchors (views c.args.term_length) c.args.term_length.positive
