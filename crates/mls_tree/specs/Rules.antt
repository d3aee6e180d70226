-- What a group of a suite asks of its tree.
use Rattle.std.specs.Prelude.{ℕ, List}
use Rattle.mls_suite.specs.Crypto.{Crypto}
use Rattle.mls_checks.specs.Leaf.{is_signed, is_capable}
use Rattle.mls_tree_model.specs.Good.{Rules}
use Rattle.mls_tree.specs.Tree.{max_leaves}

-- the rules of a suite and a group: at most max_leaves leaves, and the checks of a leaf (RFC 9420, 7.3)
abbrev pub rules_of : Crypto → List ℕ → Rules
rules_of c group =
    record { limit = max_leaves; is_signed = is_signed c group; is_capable = is_capable c.number; is_fit = c.key_ok }
