use Rattle.std.proofs.Common.{◌≡◌, length, get_or, refl, subst, arith}
use Rattle.std.proofs.lemmas.List.{length-map}
use Rattle.table.specs.Tables.{listed}
use Rattle.table.proofs.Listed.{listed_few}
use Rattle.reach.specs.Blank.{bare_entry, bare_scope, no_scope}
use Rattle.reach.specs.Held.{shape_of}
use Rattle.reach.specs.Law.{AllRecorded, BlocksHoldNone, OnlyExpressions, ReachIn, TreeLaw}
use Rattle.reach.proofs.Chains.{tree_of_scopes}
use Rattle.reach.proofs.Examples.{examples_hold}
use Rattle.reach.proofs.Laws.{tree_law}
use Rattle.reach.proofs.Reach.{law, by_bindings, met_once}
use Rattle.reach.proofs.Record.{recorded}
use Rattle.reach.proofs.Whole.{blocks_hold_none, only_expressions, root_first}
use Rattle.reach.proofs.Words.{in_words, stays_below}
use Rattle.builder.specs.Told.{scopes_in, told}
use Rattle.scope.proofs.tables.ExprScopes.new_body.Goals as goal

pub returns : goal.returns
returns c =
    let body = c.args.body.now in
    let b = shape_of body in
    let m = length (listed body.nodes) in
    let t = c.of_body-tables.result in
    let is = c.of_body-tables.ensures.is_the_tree_of_the_visit in
    let tree : TreeLaw b m = tree_law body in
    let reach : ReachIn b m (told t) = subst (λ q. ReachIn b m q) is (law b m tree) in
    record {
      is_the_tree_of_the_visit = is;
      fits_its_tables = (
        omega (arith, length-map (scopes_in t.scopes) bare_scope, listed_few t.scopes.table),
        omega (arith, length-map (listed t.entries) bare_entry, listed_few t.entries),
      );
      records_every_expression = subst (λ q. AllRecorded b m q) is (recorded b m tree);
      records_nothing_else = subst (λ q. OnlyExpressions b q) is (only_expressions b m tree);
      is_a_tree = tree_of_scopes (scopes_in t.scopes) t.scopes.sloping t.scopes.rooted (told t) refl (subst (λ q. get_or q.scopes 0 no_scope ≡ no_scope) is (root_first b m tree));
      gives_blocks_no_entry = subst BlocksHoldNone is (blocks_hold_none b m tree);
      sees_just_what_reaches = in_words b m (told t) tree reach;
      sees_no_name_beyond_what_brings_it = stays_below;
      meets_one_list_from_each_scope = met_once;
      holds_just_what_reaches = by_bindings b m (told t) reach;
      names_each_entry = c.of_body-tables.ensures.names_each_entry;
      is_defined_as_worked_out = examples_hold;
    }
