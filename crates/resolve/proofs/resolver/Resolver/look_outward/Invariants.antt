use Rattle.std.proofs.Common.{◌≡◌}
use Rattle.reach.specs.Blank.{parent_of}
use Rattle.resolve.specs.Outward.{along, chain, supposing, surroundings_of}
use Rattle.resolve.proofs.resolver.Resolver.look_outward.Given as goal

-- what is found from here on is what is found from the start
abbrev pub invariant-loop-stop : goal.invariant-loop-stop
invariant-loop-stop g l =
    let W = g.I.ItemHost.tables l.self.items.now in
    let X = g.E.ExpansionHost.expansions l.self.expansions.now in
    let T = supposing l.supposed (surroundings_of l.self.body.now l.self.tree.now) in
    along W X T l.sought.name (chain T.scopes l.at) l.context ≡ along W X T l.sought.name (chain T.scopes l.initial.at) l.initial.context

abbrev pub decreases-loop-stop : goal.decreases-loop-stop
decreases-loop-stop g l = parent_of l.at
