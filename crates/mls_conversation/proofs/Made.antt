-- How a conversation is made.
use Rattle.std.proofs.Common.{◌≡◌, ℕ, true, false, List, Option, Some, None, Result, Ok, Err, refl, sym, ap, ◌∙◌}
use Rattle.mls_treemath.specs.Steps.{height_of}
use Rattle.mls_schedule.specs.Epoch.{encryption_secret}
use Rattle.mls_tree_model.specs.Term.{width}
use Rattle.mls_secret_tree.specs.SecretTree.{Tree, first_tree, IsFirstTree}
use Rattle.mls_model.specs.Member.{Member}
use Rattle.mls_exchange.specs.State.{State}
use Rattle.mls_conversation.specs.Conversation.{state_with, conversation_of}

-- ---- the secret tree at first

tree_is : (t u : Tree) → (let some : Tree → Option Tree = λ z. Some z in some t ≡ some u) → t ≡ u
tree_is t u e = cc

first_of_some : (secret : List ℕ) (o : Option ℕ) (t : Tree) → IsFirstTree secret o (Some t) → (h : ℕ) × (o ≡ Some h) × (t ≡ first_tree secret h)
first_of_some secret None t is = absurd cc
first_of_some secret (Some h) t is = (h, refl, tree_is t (first_tree secret h) is)

no_first : (secret : List ℕ) (o : Option ℕ) → IsFirstTree secret o None → o ≡ None
no_first secret None is = refl
no_first secret (Some h) is = absurd cc

-- ---- refusals

pub was_gone : (m : Member) → m.gone ≡ true → conversation_of m ≡ Err 40
unfolding conversation_of
was_gone m e = rw e refl

pub no_tree : (m : Member) (secret : List ℕ) (leaves : ℕ) → m.gone ≡ false → leaves ≡ width m.public.tree → IsFirstTree secret (height_of leaves) None
    → conversation_of m ≡ Err 20
unfolding conversation_of
no_tree m secret leaves active e is =
    let f : height_of (width m.public.tree) ≡ None = ap height_of (sym e) ∙ no_first secret (height_of leaves) is in
    rw (active, f) refl

-- what is refused is refused with one number
pub one_refusal : (m : Member) (k : ℕ) → conversation_of m ≡ Err k → (n : ℕ) → conversation_of m ≡ Err n → k ≡ n
one_refusal m k f n g = let same = sym f ∙ g in cc

-- ---- the conversation

pub is_made : (m : Member) (h : ℕ) → m.gone ≡ false → height_of (width m.public.tree) ≡ Some h
    → conversation_of m ≡ Ok (state_with m (first_tree (encryption_secret m.epoch_secret) h))
unfolding conversation_of
is_made m h active e = rw (active, e) refl

ok_state : Member → Tree → Result State ℕ
ok_state m keys = Ok (state_with m keys)

pub made_with : (m : Member) (secret : List ℕ) (leaves : ℕ) (keys : Tree) → m.gone ≡ false → leaves ≡ width m.public.tree
    → secret ≡ encryption_secret m.epoch_secret → IsFirstTree secret (height_of leaves) (Some keys) → conversation_of m ≡ Ok (state_with m keys)
unfolding ok_state
made_with m secret leaves keys active e same is =
    let x = first_of_some secret (height_of leaves) keys is in
    let f : height_of (width m.public.tree) ≡ Some x.0 = ap height_of (sym e) ∙ x.1 in
    let t : first_tree (encryption_secret m.epoch_secret) x.0 ≡ keys = ap (λ (z : List ℕ). first_tree z x.0) (sym same) ∙ sym x.2 in
    is_made m x.0 active f ∙ ap (ok_state m) t

-- a state that is made of the member's parts is its conversation
pub made_of : (m : Member) (keys : Tree) (parts made : State) → conversation_of m ≡ Ok (state_with m keys) → parts ≡ state_with m keys → made ≡ parts
    → conversation_of m ≡ Ok made
made_of m keys parts made e p q = rw (q, p) e

-- what is made isn't refused
pub not_refused : (m : Member) (s : State) → conversation_of m ≡ Ok s → (n : ℕ) → conversation_of m ≡ Err n → ⊥
not_refused m s e n f = let wrong = sym e ∙ f in cc
