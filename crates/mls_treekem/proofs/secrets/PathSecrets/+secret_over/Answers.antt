use Rattle.std.proofs.Common.{arith, ap, ◌∙◌}
use Rattle.std.specs.List.{slice_get}
use Rattle.std.specs.Option.{option_copied}
use Rattle.std.proofs.lemmas.List.{nil_from_length}
use Rattle.mls_tree.specs.Tree.{term}
use Rattle.mls_treekem.proofs.Opening.{others_placed}
use Rattle.mls_treekem.proofs.Joiners.{copied_is, none_among, among_here, among_below}
use Rattle.mls_treekem.proofs.secrets.PathSecrets.+secret_over.Goals as goal

pub returns-in_default : goal.returns-in_default
returns-in_default t c = none_among (term c.args.tree.now) c.args.places.now c.args.joiner c.args.self.now.secrets.items (nil_from_length _ c.in_default.ensures.cases)

pub filtered_count-requires-clause-placed : goal.filtered_count-requires-clause-placed
filtered_count-requires-clause-placed t c = others_placed _ _ _ _ c.in-Some.ensures.cases.0 c.requires.placed

pub returns-then-is_beside : goal.returns-then-is_beside
returns-then-is_beside t c =
    among_here (term c.args.tree.now) c.in-Some.place.now c.in-Some.below.now c.args.places.now c.in-Some.ensures.cases.0 c.requires.placed c.args.joiner c.args.self.now.secrets.items c.is_beside.result c.is_beside.ensures
    c.if-is_beside.true c.filtered_count.result c.filtered_count.ensures.count (option_copied c.get.result)
    (copied_is c.get.result c.filtered_count.result c.deref.result.now c.get.ensures.lookup ∙ ap (λ xs. slice_get xs c.filtered_count.result) c.deref.ensures.value)

pub secret_over-requires : goal.secret_over-requires
secret_over-requires t c = (omega (arith, c.in-Some.ensures.cases.1), (omega (arith, c.in-Some.ensures.cases.1, c.requires.low), others_placed _ _ _ _ c.in-Some.ensures.cases.0 c.requires.placed))

pub returns : goal.returns
returns t c =
    among_below (term c.args.tree.now) c.in-Some.place.now c.in-Some.below.now c.args.places.now c.in-Some.ensures.cases.0 c.requires.placed c.args.joiner c.args.self.now.secrets.items c.is_beside.result c.is_beside.ensures
    c.if-is_beside.false (option_copied c.secret_over.result) c.secret_over.ensures
