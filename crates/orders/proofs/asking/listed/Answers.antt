use Rattle.std.proofs.Common.{◌≡◌, ◌+◌, Ok, Err, take, sym, ◌∙◌, rules}
use Rattle.orders.specs.Asks.{ask_named}
use Rattle.orders.proofs.Listing.{goes_on, to_end, stops}
use Rattle.orders.proofs.asking.listed.Goals as goal

pub returns-in_err-ask : goal.returns-in_err-ask
returns-in_err-ask c =
    let rest = c.loop-asks.rest.now in
    let named : ask_named (take c.up_to-end.result rest) ≡ Err c.in_err-ask.field-0.0 = sym c.ask_named.ensures ∙ c.in_err-ask.was in
    let stop = stops c.args.word.now rest c.loop-asks.asks.items c.in_err-ask.field-0.0 c.up_to-end.result c.loop-asks.invariant c.up_to-end.ensures.value named in
    search (rules, stop)

pub loop-asks-preserved : goal.loop-asks-preserved
loop-asks-preserved c =
    let rest = c.loop-asks.rest.now in
    let named : ask_named (take c.up_to-end.result rest) ≡ Ok c.in_ok-ask.ask = sym c.ask_named.ensures ∙ c.in_ok-ask.was in
    goes_on c.args.word.now rest _ c.loop-asks.asks.items c.push.new.asks.items c.in_ok-ask.ask c.up_to-end.result c.loop-asks.invariant c.up_to-end.ensures.value named c.if-end-rest.false c.up_to-end.ensures.bound (to_end (c.up_to-end.result + 1) rest) c.in_ok-push.ensures
