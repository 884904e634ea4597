use Rattle.std.proofs.Common.{◌∙◌}
use Rattle.state.specs.States.{held, term}
use Rattle.catching_up.proofs.Bare.{none_bare}
use Rattle.catching_up.proofs.standing.how_far.Goals as goal

pub returns-clause-none_bare : goal.returns-clause-none_bare
returns-clause-none_bare g c all = c.bare.ensures ∙ none_bare (term c.args.member.now.resolver.calls.state) (held c.args.member.now.resolver.calls.state) all
