-- How long the parts of a GroupInfo are that an input spells.
use Rattle.std.proofs.Common.{◌≡◌, ℕ, ◌+◌, ◌<◌, ◌≤◌, ◌^◌, List, ◌++◌, length, Option, Some, None, Result, Ok, Err, sym, ap, subst, ◌∙◌, arith, length-append, inl, inr, lt-ltb}
use Rattle.std.proofs.lemmas.Bool.{cases_lt, cond-true}
use Rattle.std.specs.Int.{w16, w32, w64}
use Rattle.std.specs.List.{flat_map}
use Rattle.mls_wire.specs.Combine.{optional}
use Rattle.mls_wire.specs.Format.{Format}
use Rattle.mls_wire.specs.Reading.{uint, header, opaque}
use Rattle.mls_wire.specs.Whole.{whole}
use Rattle.mls_leaf.specs.Faults.{Spells}
use Rattle.mls_leaf.specs.GroupExtensions.{group_extensions}
use Rattle.mls_leaf.specs.Limits.{input_limit}
use Rattle.mls_leaf.specs.Node.{node}
use Rattle.mls_leaf.specs.declared.node.Node.{Node}
use Rattle.mls_types.specs.GroupContext.{group_context}
use Rattle.mls_types.specs.GroupInfo.{group_info, group_info_extensions, group_info_tbs, GroupInfoTbsFits, ratchet_tree}
use Rattle.mls_types.specs.Message.{mls_message}
use Rattle.mls_types.specs.declared.group_context.GroupContext.{GroupContext}
use Rattle.mls_types.specs.declared.group_info.GroupInfo.{GroupInfo}
use Rattle.mls_types.specs.declared.message.MlsMessage.TheVariants as message
use Rattle.mls_checks.specs.Short.{IsShort}
use Rattle.mls_tree_model.specs.Term.{Term}
use Rattle.mls_tree_model.specs.Arrays.{from_nodes}
use Rattle.mls_tree.specs.Tree.{max_leaves}
use Rattle.mls_tree.specs.ShortLeaves.{HasShortLeaves}
use Rattle.mls_tree.proofs.ShortLeaves.{short_leaves}
use Rattle.mls_tree.proofs.SentLemmas.{sent_is}

-- ---- what is read whole

abbrev too_long : {V : Type 0} → Result V ℕ
too_long = Err 6

-- it is within the limit
pub within_limit : {V : Type 0} (format : Format V) (bytes : List ℕ) (v : V) → whole format input_limit bytes ≡ Ok v → length bytes ≤ input_limit
unfolding whole
within_limit {V} format bytes v e =
    elim (cases_lt input_limit (length bytes)) [
      | inl over ↦ absurd (differ (sym (cond-true _ _ _ (lt-ltb input_limit (length bytes) over)) ∙ e))
      | inr within ↦ within
    ]
  where
    differ : too_long {V = V} ≡ Ok v → ⊥
    differ h = absurd cc

-- the GroupInfo of a message that an input spells is short
pub short_info : (bytes : List ℕ) (info : GroupInfo) → Spells mls_message (message.GroupInfo info) bytes → length bytes ≤ input_limit → IsShort group_info info
unfolding mls_message
short_info bytes info spells within =
    let text : List ℕ = group_info.spell info in
    let parts : length bytes ≡ length (uint w16 1) + (length (uint w16 4) + length text) =
    ap length spells.spelled ∙ length-append (uint w16 1) (uint w16 4 ++ text) ∙ ap (λ (k : ℕ). length (uint w16 1) + k) (length-append (uint w16 4) text) in
    record { fits = spells.fits.1; short = omega arith }

-- ---- its parts

pub record HasShortParts (v : GroupInfo) : Type 0 where
  pub context : IsShort group_context v.group_context
  pub nodes : (xs : List (Option Node)) → v.ratchet_tree ≡ Some xs → IsShort ratchet_tree xs
  pub fits : GroupInfoTbsFits v
  pub short : length (group_info_tbs v) < 2 ^ 28

short_nodes : (o : Option (List (Option Node))) → group_info_extensions.Fits o → length (group_info_extensions.spell o) < 2 ^ 28
    → (xs : List (Option Node)) → o ≡ Some xs → IsShort ratchet_tree xs
unfolding group_info_extensions
short_nodes None fits lt xs e = absurd cc
short_nodes (Some ys) fits lt xs e =
    let text : List ℕ = ratchet_tree.spell ys in
    let inner : List ℕ = uint w16 2 ++ opaque text in
    let short : IsShort ratchet_tree ys = record { fits = fits.0.0; short = omega (arith, length-append (header (length inner)) inner, length-append (uint w16 2) (opaque text), length-append (header (length text)) text) } in
    let same : ys ≡ xs = cc in
    subst (λ (zs : List (Option Node)). IsShort ratchet_tree zs) same short

pub short_parts : (v : GroupInfo) → IsShort group_info v → HasShortParts v
unfolding group_info
short_parts v is =
    let a : List ℕ = group_context.spell v.group_context in
    let b : List ℕ = group_info_extensions.spell v.ratchet_tree in
    let t : List ℕ = v.confirmation_tag in
    let s : List ℕ = uint w32 v.signer in
    let g : List ℕ = opaque v.signature in
    let all : length a + (length b + (length (header (length t)) + length t + (length s + length g))) < 2 ^ 28 =
    subst (λ (k : ℕ). k < 2 ^ 28) (length-append a (b ++ (opaque t ++ (s ++ g))) ∙ ap (λ (k : ℕ). length a + k) (length-append b (opaque t ++ (s ++ g)) ∙ ap (λ (k : ℕ). length b + k) (length-append (opaque t) (s ++ g) ∙ ap (λ (k : ℕ). k + length (s ++ g)) (length-append (header (length t)) t) ∙ ap (λ (k : ℕ). length (header (length t)) + length t + k) (length-append s g)))) is.short in
    let signed : length (group_info_tbs v) < 2 ^ 28 = simp length-append (omega arith) in
    record {
      context = record { fits = is.fits.0; short = omega arith };
      nodes = short_nodes v.ratchet_tree is.fits.1.0 (omega arith);
      fits = (is.fits.0, (is.fits.1.0, (is.fits.1.1.0, is.fits.1.1.1.0)));
      short = signed;
    }

-- the group's id is short
pub short_id : (g : GroupContext) → IsShort group_context g → length g.group_id < 2 ^ 28
unfolding group_context
short_id g is =
    let i : List ℕ = g.group_id in
    let more : List ℕ = uint w64 g.epoch ++ (opaque g.tree_hash ++ (opaque g.confirmed_transcript_hash ++ group_extensions.spell g.extensions)) in
    let lengths : length (uint w16 1) + (length (uint w16 g.cipher_suite) + (length (opaque i) + length more)) < 2 ^ 28 =
    subst (λ (k : ℕ). k < 2 ^ 28) (length-append (uint w16 1) (uint w16 g.cipher_suite ++ (opaque i ++ more)) ∙ ap (λ (k : ℕ). length (uint w16 1) + k) (length-append (uint w16 g.cipher_suite) (opaque i ++ more) ∙ ap (λ (k : ℕ). length (uint w16 g.cipher_suite) + k) (length-append (opaque i) more))) is.short in
    omega (arith, length-append (header (length i)) i)

-- the leaves of the tree of short nodes are short
pub leaves_short : (nodes items : List (Option Node)) (t : Term) → IsShort ratchet_tree nodes → items ≡ nodes → from_nodes max_leaves items ≡ Ok t → HasShortLeaves t
leaves_short nodes items t short same e =
    let text : List ℕ = flat_map (optional node).spell nodes in
    let parts : length (ratchet_tree.spell nodes) ≡ length (header (length text)) + length text = length-append (header (length text)) text in
    let is = sent_is nodes t (ap (from_nodes max_leaves) (sym same) ∙ e) in
    subst HasShortLeaves is.0 (short_leaves nodes (record { fits = short.fits.0; short = let lt = short.short in omega arith }))
