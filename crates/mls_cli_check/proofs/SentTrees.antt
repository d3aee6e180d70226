-- The tree that bytes spell follows from their nodes.
use Rattle.std.proofs.Common.{◌≡◌, ◌≢◌, ◌∙◌, ℕ, List, Option, Result, Ok, Err, ap, arith, refl, sym}
use Rattle.mls_wire.specs.Reading.{◌>>=◌}
use Rattle.mls_wire.specs.declared.WireError.TheVariants as wire
use Rattle.mls_wire.specs.Whole.{whole}
use Rattle.mls_leaf.specs.Faults.{Fails, Outright, number_of}
use Rattle.mls_leaf.specs.Limits.{input_limit}
use Rattle.mls_leaf.specs.declared.error.LeafError.{LeafError}
use Rattle.mls_leaf.specs.declared.error.LeafError.TheVariants.{Wire, BadTag, UnsupportedCredential, UnsupportedProposal, NotRising, ExtensionNotAllowed}
use Rattle.mls_leaf.specs.declared.node.Node.{Node}
use Rattle.mls_types.specs.GroupInfo.{ratchet_tree}
use Rattle.mls_tree_model.specs.Term.{Term}
use Rattle.mls_tree_model.specs.Arrays.{from_nodes}
use Rattle.mls_tree.specs.Tree.{max_leaves}
use Rattle.mls_cli_check.specs.Check.{tree_in}

-- a fault of the first part is the fault of the whole
pub fault_then : {A B : Type 0} (e : LeafError) (r : Result A ℕ) (f : A → Result B ℕ) → Fails e r → number_of e ≢ 1 → (r >>= f) ≡ Err (number_of e)
fault_then (Wire wire.OutOfMemory) r f h ne = absurd (ne refl)
fault_then {A} {B} (Wire wire.Truncated) r f h ne = ap (λ (x : Result A ℕ). x >>= f) h
fault_then {A} {B} (Wire wire.Trailing) r f h ne = ap (λ (x : Result A ℕ). x >>= f) h
fault_then {A} {B} (Wire wire.BadLength) r f h ne = ap (λ (x : Result A ℕ). x >>= f) h
fault_then {A} {B} (Wire wire.NotMinimal) r f h ne = ap (λ (x : Result A ℕ). x >>= f) h
fault_then {A} {B} (Wire wire.TooLong) r f h ne = ap (λ (x : Result A ℕ). x >>= f) h
fault_then {A} {B} BadTag r f h ne = ap (λ (x : Result A ℕ). x >>= f) h
fault_then {A} {B} UnsupportedCredential r f h ne = ap (λ (x : Result A ℕ). x >>= f) h
fault_then {A} {B} UnsupportedProposal r f h ne = ap (λ (x : Result A ℕ). x >>= f) h
fault_then {A} {B} NotRising r f h ne = ap (λ (x : Result A ℕ). x >>= f) h
fault_then {A} {B} ExtensionNotAllowed r f h ne = ap (λ (x : Result A ℕ). x >>= f) h

-- bytes that spell no nodes spell no tree
pub no_nodes : (bytes : List ℕ) (e : LeafError) → Fails e (whole ratchet_tree input_limit bytes) → number_of e ≢ 1 → tree_in bytes ≡ Err (number_of e)
unfolding tree_in
no_nodes bytes e h ne = fault_then e (whole ratchet_tree input_limit bytes) (from_nodes max_leaves) h ne

-- else what the nodes stand for decides
pub of_nodes : (bytes : List ℕ) (nodes items : List (Option Node)) (r : Result Term ℕ)
    → whole ratchet_tree input_limit bytes ≡ Ok nodes → items ≡ nodes → from_nodes max_leaves items ≡ r → tree_in bytes ≡ r
unfolding tree_in
of_nodes bytes nodes items r e same h =
    ap (λ (x : Result (List (Option Node)) ℕ). x >>= from_nodes max_leaves) e ∙ (ap (from_nodes max_leaves) (sym same) ∙ h)

-- ---- refusals that need no memory

-- what is read is no fault
pub read_twice : {V : Type 0} (read : Result V ℕ) (v : V) (n : ℕ) → read ≡ Ok v → read ≡ Err n → ⊥
read_twice read v n e h = cc

-- a fault that is answered outright isn't want of memory
pub no_memory : {V : Type 0} (e : LeafError) (read : Result V ℕ) (n : ℕ) → Outright read e → read ≡ Err n → number_of e ≢ 1
no_memory (Wire wire.OutOfMemory) read n out h = λ one. absurd (read_twice read out.0 n out.1 h)
no_memory (Wire wire.Truncated) read n out h = λ one. absurd (omega arith)
no_memory (Wire wire.Trailing) read n out h = λ one. absurd (omega arith)
no_memory (Wire wire.BadLength) read n out h = λ one. absurd (omega arith)
no_memory (Wire wire.NotMinimal) read n out h = λ one. absurd (omega arith)
no_memory (Wire wire.TooLong) read n out h = λ one. absurd (omega arith)
no_memory BadTag read n out h = λ one. absurd (omega arith)
no_memory UnsupportedCredential read n out h = λ one. absurd (omega arith)
no_memory UnsupportedProposal read n out h = λ one. absurd (omega arith)
no_memory NotRising read n out h = λ one. absurd (omega arith)
no_memory ExtensionNotAllowed read n out h = λ one. absurd (omega arith)

-- bytes that spell a tree spell nodes
pub no_tree : (bytes : List ℕ) (t : Term) (n : ℕ) → tree_in bytes ≡ Ok t → whole ratchet_tree input_limit bytes ≡ Err n → ⊥
unfolding tree_in
no_tree bytes t n is h =
    let refused : tree_in bytes ≡ Err n = ap (λ (x : Result (List (Option Node)) ℕ). x >>= from_nodes max_leaves) h in cc
