-- A good member is loaded as it was saved.
use Rattle.std.proofs.Common.{◌≡◌, ℕ, ◌+◌, ◌<◌, ◌≤◌, Bool, true, false, List, [], ◌∷◌, ◌++◌, length, take, map, get_or, Option, Some, None, Ok, refl, sym, ap, ap₂, subst, ◌∙◌, arith}
use Rattle.std.specs.Prelude.{IsSome, option_map}
use Rattle.std.specs.List.{AllByRecursion}
use Rattle.std.proofs.lemmas.List.{take_more, take_all, map-append}
use Rattle.std.proofs.lemmas.Slice.Eq.{bytes_eq-Decides}
use Rattle.mls_wire.specs.Whole.{whole}
use Rattle.mls_leaf.specs.Faults.{Refuses, Spells}
use Rattle.mls_leaf.specs.Limits.{input_limit}
use Rattle.mls_leaf.specs.declared.error.LeafError.{LeafError}
use Rattle.mls_leaf.proofs.Codecs.{Refuses-whole}
use Rattle.mls_leaf.proofs.WholeLaws.{whole_again}
use Rattle.mls_saved.specs.Member.{saved_member}
use Rattle.mls_saved.specs.declared.member.SavedMember.{SavedMember}
use Rattle.mls_saved.specs.declared.proposal.SavedProposal.{SavedProposal}
use Rattle.mls_saved_state.specs.Secrets.{is_secret}
use Rattle.mls_saved_state.specs.State.{saved_state_of, HasSecrets, IsGoodState}
use Rattle.mls_saved_state.proofs.Loading.{loads_what_was_saved}
use Rattle.mls_suite.specs.Crypto.{Crypto}
use Rattle.mls_tree_model.specs.Term.{leaf_of}
use Rattle.mls_public_group.proofs.Rest.{all_behind}
use Rattle.mls_model.specs.Member.{KeptProposal, Pending, Member, with_epoch}
use Rattle.mls_model.specs.MemberInvariant.{IsGoodMember, IsGoodIfPending}
use Rattle.mls_theorems.proofs.Delivered.{pending_leads}
use Rattle.mls_member.specs.Saved.{standing_of, saved_proposal_of, saved_pending_of, saved_of, FitsInput, is_removed, load_all_kept, load_pending, load_if_pending, signs_as, load_member, load, HasSecretsIfPending, IsLoaded, IsLoadedIfGood}

-- ---- the state

state_of_good : (c : Crypto) (m : Member) → IsGoodMember c m → IsGoodState c m.public m.keys
state_of_good c m good = record { suite = good.suite; tree = good.tree; hash = good.hash; own = subst IsSome (sym good.is_own) refl; exact = good.keys }

-- ---- kept proposals

kept_loaded : (ks : List KeptProposal) → AllByRecursion IsLoaded ks → load_all_kept (map saved_proposal_of ks) ≡ Ok ks
unfolding load_all_kept
kept_loaded [] h = refl
kept_loaded (k ∷ ks) h = rw (h.0, kept_loaded ks h.1) refl

-- the first so many are saved, and are loaded as they were
pub record AreSaved (kept : List KeptProposal) (saved : List SavedProposal) (i : ℕ) : Type 0 where
  pub same : saved ≡ map saved_proposal_of (take i kept)
  pub loads : AllByRecursion IsLoaded (take i kept)

pub none_saved : (kept : List KeptProposal) → AreSaved kept [] 0
none_saved kept = record { same = refl; loads = tt }

pub one_saved : (kept : List KeptProposal) (saved : List SavedProposal) (i : ℕ) (x : KeptProposal) (y : SavedProposal) → i < length kept → x ≡ get_or kept i x → y ≡ saved_proposal_of x → IsLoaded x → AreSaved kept saved i → AreSaved kept (saved ++ y ∷ []) (i + 1)
one_saved kept saved i x y lt at same loads h =
    let more : take (i + 1) kept ≡ take i kept ++ x ∷ [] = take_more kept i x lt ∙ ap (λ (k : KeptProposal). take i kept ++ k ∷ []) (sym at) in
    record {
      same = ap₂ (λ (l : List SavedProposal) (k : SavedProposal). l ++ k ∷ []) h.same same ∙ sym (map-append saved_proposal_of (take i kept) (x ∷ [])) ∙ ap (map saved_proposal_of) (sym more);
      loads = subst (AllByRecursion IsLoaded) (sym more) (all_behind IsLoaded (take i kept) x h.loads loads);
    }

pub all_saved : (kept : List KeptProposal) (saved : List SavedProposal) (i : ℕ) → length kept ≤ i → AreSaved kept saved i → (saved ≡ map saved_proposal_of kept) × (load_all_kept saved ≡ Ok kept)
all_saved kept saved i le h =
    let all : take i kept ≡ kept = take_all i kept le in
    let same : saved ≡ map saved_proposal_of kept = h.same ∙ ap (map saved_proposal_of) all in
    (same, ap load_all_kept same ∙ kept_loaded kept (subst (AllByRecursion IsLoaded) all h.loads))

-- ---- the pending commit

pending_loaded : (c : Crypto) (m : Member) → IsGoodMember c m → (o : Option Pending) → IsGoodIfPending c m o → HasSecretsIfPending (option_map saved_pending_of o) → load_if_pending c (option_map saved_pending_of o) ≡ Ok o
unfolding load_pending with_epoch
pending_loaded c m good None h secrets = refl
pending_loaded c m good (Some p) h secrets =
    let after : Member = with_epoch m p.public p.epoch_secret p.keys in
    let e = loads_what_was_saved c p.public p.epoch_secret p.keys (state_of_good c after (pending_leads c m p good h)) secrets in
    rw e refl

-- ---- the whole

gone_back : (gone : Bool) → is_removed (standing_of gone) ≡ gone
gone_back true = refl
gone_back false = refl

pub member_loaded : (c : Crypto) (m : Member) → HasSecrets (saved_state_of m.public m.epoch_secret m.keys) → is_secret m.signing ≡ true → load_all_kept (map saved_proposal_of m.kept) ≡ Ok m.kept → HasSecretsIfPending (option_map saved_pending_of m.pending) → IsLoadedIfGood c m
unfolding load_member saved_of
member_loaded c m secrets signing kept pending good =
    let e1 = loads_what_was_saved c m.public m.epoch_secret m.keys (state_of_good c m good) secrets in
    let e2 : signs_as c (leaf_of m.public.tree m.keys.leaf) m.signing ≡ true = rw good.is_own ((bytes_eq-Decides _ _).1 good.signing) in
    let e3 = pending_loaded c m good m.pending good.pending pending in
    let e4 : is_removed (standing_of m.gone) ≡ m.gone = gone_back m.gone in
    rw (e1, signing, e2, kept, e3, e4) refl

pub bytes_loaded : (c : Crypto) (m : Member) (bytes : List ℕ) → Spells saved_member (saved_of m) bytes → length bytes ≤ input_limit → load_member c (saved_of m) ≡ Ok m → load c bytes ≡ Ok m
unfolding load
bytes_loaded c m bytes spells le e =
    let w : whole saved_member input_limit bytes ≡ Ok (saved_of m) = whole_again saved_member input_limit bytes (saved_of m) spells le in
    rw (w, e) refl

-- ---- what is refused

pub unfit : (v : SavedMember) (e : LeafError) → Refuses (saved_member.Fits v) e → Refuses (FitsInput v) e
unfit v e h = Refuses-whole (saved_member.Fits v) (FitsInput v) e (λ fits. fits.0) h

pub too_long : (v : SavedMember) (bytes : List ℕ) → Spells saved_member v bytes → input_limit < length bytes → FitsInput v → ⊥
too_long v bytes spells lt fits = absurd (omega (arith, ap length spells.spelled, fits.1))
