-- A good tree passes the checks, and a tree of good shape and size that passes them is good.
use Rattle.std.proofs.Common.{◌≡◌, true, Ok, refl}
use Rattle.mls_wire.specs.Checks.{passed}
use Rattle.mls_wire.specs.CheckLaws.{required}
use Rattle.mls_wire.proofs.CheckLaws.{require_ok}
use Rattle.mls_tree_model.specs.Term.{Term, height, is_perfect}
use Rattle.mls_tree_model.specs.Lists.{all_parents, rises_here}
use Rattle.mls_tree_model.specs.Good.{Rules, IsGood, tree_checks, has_good_shape, is_within, has_good_lists, has_good_hashes, has_distinct_keys, has_distinct_clients, is_all_signed, is_all_capable, is_all_fit}

pub good_passes : (rules : Rules) (t : Term) → IsGood rules t → tree_checks rules t ≡ Ok passed
unfolding tree_checks
good_passes rules t g = rw (g.lists, g.hashes, g.keys, g.clients, g.signed, g.capable, g.fit) refl

-- and of a tree of good shape and size that passes them nothing else is asked
pub good_from_checks : (rules : Rules) (t : Term) → is_perfect (height t) t ≡ true → all_parents rises_here 0 t ≡ true → has_good_shape t ≡ true → is_within rules.limit t ≡ true → tree_checks rules t ≡ Ok passed → IsGood rules t
unfolding tree_checks
good_from_checks rules t perfect rising shape within h =
    let a = require_ok 23 (has_good_lists t) _ passed h in
    let b = require_ok 24 (has_good_hashes t) _ passed a.1 in
    let c = require_ok 25 (has_distinct_keys t) _ passed b.1 in
    let d = require_ok 26 (has_distinct_clients t) _ passed c.1 in
    let e = require_ok 51 (is_all_signed rules t) _ passed d.1 in
    let f = require_ok 52 (is_all_capable rules t) _ passed e.1 in
    record {
      perfect = perfect;
      rising = rising;
      shape = shape;
      within = within;
      lists = a.0;
      hashes = b.0;
      keys = c.0;
      clients = d.0;
      signed = e.0;
      capable = f.0;
      fit = required 36 (is_all_fit rules t) passed f.1;
    }
