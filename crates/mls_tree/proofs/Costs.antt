-- What hashing costs over many calls.
use Rattle.std.proofs.Common.{◌≡◌, ℕ, suc, ◌+◌, ◌*◌, ◌≤◌, List, [], ◌∷◌, arith}
use Rattle.mls_tree.specs.Tree.{Tree}
use Rattle.mls_tree.specs.ColdNodes.{cold_nodes, Warms, Call, Asks, Edits, Makes, Called, MakesAll, last_of, one_edit, edits, one_doubling, doubled, FewHashes}

asked : (old new : Tree) → Warms old new → new.hash_count + cold_nodes new ≤ old.hash_count + cold_nodes old
asked old new w = let a = w.fewer in let b = w.done in omega arith

one_more : (k s : ℕ) → suc k * s ≡ s + k * s
one_more k s = grind arith

step : (h : ℕ) (old : Tree) (c : Call) (new : Tree) → Makes h old c new → new.hash_count + cold_nodes new ≤ old.hash_count + cold_nodes old + (one_edit c * suc h + one_doubling old c new)
step h old Asks new w = let a = asked old new w in omega arith
step h old (Edits t i) new m = let a = m.1.few in let b = m.1.done in let low = m.0 in omega arith

pub costs : (h : ℕ) (old : Tree) (calls : List Called) → MakesAll h old calls → (last_of old calls).hash_count + cold_nodes (last_of old calls) ≤ old.hash_count + cold_nodes old + (edits calls * suc h + doubled old calls)
unfolding MakesAll last_of edits doubled
costs h old [] m = omega arith
costs h old (c ∷ calls) m =
    let first = step h old c.call c.after m.0 in
    let rest = costs h c.after calls m.1 in
    let sum = added (one_edit c.call) (edits calls) (suc h) in
    omega arith
  where
    added : (a b s : ℕ) → (a + b) * s ≡ a * s + b * s
    added a b s = grind arith

pub few_hashes : FewHashes
few_hashes h t calls none m = let c = costs h t calls m in omega arith
