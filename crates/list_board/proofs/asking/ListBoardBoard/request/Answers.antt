use Rattle.std.proofs.Common.{◌≡◌, ◌<◌, ◌≤◌, true, false, None, is_some, refl, sym, ap, subst, ◌∙◌, rules, length}
use Rattle.board.specs.Asks.{place, place_of}
use Rattle.board.specs.Boards.{ancestries}
use Rattle.board.specs.Sorting.{lookup, placed}
use Rattle.board.specs.declared.ask.Ask.TheVariants.{Ancestry}
use Rattle.list_board.specs.Lists.{entries, asks_of}
use Rattle.list_board.proofs.Entries.{found, not_found, request_clears, request_stays, request_full, request_opens}
use Rattle.list_board.proofs.asking.ListBoardBoard.request.Goals as goal

pub replace-requires-clause-same : goal.replace-requires-clause-same
replace-requires-clause-same c =
    let k = place c.args.view (Ancestry c.args.kind) in
    let f = found k (entries c.args.self.now) c.in-Some.at c.new.result (sym c.in-Some.is ∙ c.find.ensures) in
    f.1 ∙ ap place_of (sym c.new.ensures.value)

pub returns-then-is_none : goal.returns-then-is_none
returns-then-is_none c =
    let k = place c.args.view (Ancestry c.args.kind) in
    let os = asks_of c.args.self.now in
    let f = found k (entries c.args.self.now) c.in-Some.at c.new.result (sym c.in-Some.is ∙ c.find.ensures) in
    let none : is_some c.args.target ≡ false = search rules in
    let r = request_clears c.args.view c.args.kind c.args.target os f.2 none in
    (r.0, c.replace.ensures ∙ (ap (λ o. placed o os) c.new.ensures.value ∙ r.1))

pub returns-else-is_none : goal.returns-else-is_none
returns-else-is_none c =
    let k = place c.args.view (Ancestry c.args.kind) in
    let f = found k (entries c.args.self.now) c.in-Some.at (record { view = c.args.view; ask = Ancestry c.args.kind; target = None }) (sym c.in-Some.is ∙ c.find.ensures) in
    let some : is_some c.args.target ≡ true = search rules in
    request_stays c.args.view c.args.kind c.args.target (asks_of c.args.self.now) f.2 some

pub returns-then-counts-ge-ANCESTRY : goal.returns-then-counts-ge-ANCESTRY
returns-then-counts-ge-ANCESTRY c =
    let n = not_found (place c.args.view (Ancestry c.args.kind)) (entries c.args.self.now) (sym c.in_default.is ∙ c.find.ensures) in
    let many : 64 ≤ length (ancestries (asks_of c.args.self.now)) = subst (λ k. 64 ≤ k.ancestry) c.counts.ensures c.if-counts-ge-ANCESTRY.true in
    (request_full c.args.view c.args.kind (asks_of c.args.self.now) n.0 many, refl, refl)

pub push-requires-clause-absent : goal.push-requires-clause-absent
push-requires-clause-absent c =
    let n = not_found (place c.args.view (Ancestry c.args.kind)) (entries c.args.self.now) (sym c.in_default.is ∙ c.find.ensures) in
    ap (λ o. lookup (place_of o) (entries c.args.self.now)) c.new-2.ensures.value ∙ n.1

pub returns : goal.returns
returns c =
    let os = asks_of c.args.self.now in
    let n = not_found (place c.args.view (Ancestry c.args.kind)) (entries c.args.self.now) (sym c.in_default.is ∙ c.find.ensures) in
    let few : length (ancestries os) < 64 = subst (λ k. k.ancestry < 64) c.counts.ensures c.if-counts-ge-ANCESTRY.false in
    let r = request_opens c.args.view c.args.kind c.args.target os n.0 few in
    (r.0, c.push.ensures ∙ (ap (λ o. placed o os) c.new-2.ensures.value ∙ r.1))
