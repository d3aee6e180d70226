-- A made Welcome leads each candidate that its commit adds to its maker's next public state and epoch.
use Rattle.std.proofs.Common.{◌≡◌, ℕ, if◌then◌else◌, Bool, true, false, List, [], ◌∷◌, length, zip, Option, Some, None, Result, Ok, refl, sym, ap, ◌∙◌, inl, inr, eq-eqb}
use Rattle.std.specs.List.{list_any}
use Rattle.std.specs.Str.{bytes_eq}
use Rattle.mls_kdf.proofs.Lengths.{length-derive_secret}
use Rattle.mls_leaf.specs.KeyPackage.{key_package}
use Rattle.mls_leaf.specs.declared.key_package.KeyPackage.{KeyPackage}
use Rattle.mls_types.specs.declared.group_info.GroupInfo.{GroupInfo}
use Rattle.mls_types.specs.declared.update_path.UpdatePath.{UpdatePath}
use Rattle.mls_types.specs.Commit.{commit}
use Rattle.mls_types.specs.declared.commit.ProposalOrRef.{ProposalOrRef}
use Rattle.mls_suite.specs.Crypto.{Crypto}
use Rattle.mls_tree_model.specs.Way.{Step, way, is_beside}
use Rattle.mls_treekem_model.specs.Chain.{chain}
use Rattle.mls_treekem_model.specs.Join.{secret_for}
use Rattle.mls_treekem_model.specs.Make.{filtered_count}
use Rattle.mls_treekem_model.specs.Seeds.{seal_seed}
use Rattle.mls_model.specs.MemberInvariant.{IsGoodCandidate}
use Rattle.mls_model.specs.Candidate.{Candidate}
use Rattle.mls_treekem_model.specs.Seeds.{path_seed}
use Rattle.mls_model.specs.Claims.{IsMade}
use Rattle.mls_model.specs.Commit.{Edits, Change, public_with}
use Rattle.mls_model.specs.Journal.{adds_in, used_of}
use Rattle.mls_model.specs.Make.{MadePath, Made, path_secret_for, path_seals, welcome_if}
use Rattle.mls_model.specs.Member.{KeptProposal, Member, find_proposals}
use Rattle.mls_model.specs.OpenedWelcome.{is_none_or_32}
use Rattle.mls_model.specs.Proposals.{adds}
use Rattle.mls_model.specs.PublicState.{Used}
use Rattle.mls_model.specs.Welcome.{unsigned_info, signed_info, secrets_with, welcome_message, info_of}
use Rattle.mls_theorems.specs.CommitLaws.{IsJoiner, HasLeaves}
use Rattle.mls_theorems.proofs.Inversion.{edited_steps}
use Rattle.mls_theorems.proofs.Joining.{edits_add, adds_counted}
use Rattle.mls_theorems.proofs.NextStates.{leaves_next}
use Rattle.mls_theorems.proofs.CommitEntries.{body_is}
use Rattle.mls_theorems.proofs.Entries.{HasEntry, is_among, first_entry}
use Rattle.mls_theorems.specs.CommitCalls.{commit_of, said_of, signature_of, joiner_of, tag_of, made_of, Makes}
use Rattle.mls_theorems.specs.NextStates.{IsNext}
use Rattle.mls_theorems.proofs.Next.{is_next}
use Rattle.mls_theorems.proofs.One.{IsOneOf, at_one}
use Rattle.mls_theorems.specs.SentCommits.{sent_of}
use Rattle.mls_theorems.proofs.Sent.{made_fits}
use Rattle.mls_theorems.proofs.Spelled.{one_spelled, commit_in, used_fit, adds_fit}
use Rattle.mls_theorems.proofs.Stays.{taken}
use Rattle.mls_wire.proofs.CheckLaws.{bind_ok}
use Rattle.mls_treekem_model.proofs.OpenLaws.{chain_length}
use Rattle.mls_theorems.specs.UsedProposals.{IsUsedAlike}
use Rattle.mls_theorems.proofs.Used.{used_for_other}
use Rattle.mls_theorems.specs.OpenedWelcomes.{encrypted_info, Welcomes}
use Rattle.mls_theorems.proofs.Welcomed.{welcome_did}

-- ---- secrets have 32 bytes

side_32 : (b : Bool) (x y : List ℕ) → length x ≡ 32 → length y ≡ 32 → length (if b then x else y) ≡ 32
side_32 true x y h k = h
side_32 false x y h k = k

secret_32 : (ss : List Step) (j : ℕ) (start : List ℕ) → length start ≡ 32 → length (secret_for ss j start) ≡ 32
unfolding secret_for
secret_32 [] j start h = h
secret_32 (s ∷ ss) j start h = side_32 (is_beside s j) (chain start (filtered_count ss)) (secret_for ss j start) (chain_length start (filtered_count ss) h) (secret_32 ss j start h)

start_32 : (seed : List ℕ) → length (path_seed seed) ≡ 32
unfolding path_seed
start_32 seed = length-derive_secret _ _

pub sent_32 : (path : Option UpdatePath) (m : Member) (e : Edits) (seed : List ℕ) (j : ℕ) → is_none_or_32 (path_secret_for path m e seed j) ≡ true
sent_32 None m e seed j = refl
sent_32 (Some path) m e seed j = eq-eqb _ _ (secret_32 (way 0 e.tree m.keys.leaf) j (path_seed seed) (start_32 seed))

-- ---- what was added

-- a Welcome was made of these
welcome_some : (c : Crypto) (m : Member) (change : Change) (path : MadePath) (joiner tag seed : List ℕ) (xs : List (KeyPackage × ℕ)) (bytes : List ℕ) → welcome_if c m change path joiner tag seed xs ≡ Ok (Some bytes) →
    welcome_message c (signed_info c m.signing (unsigned_info (public_with change tag) tag m.keys.leaf)) joiner (λ j. secrets_with joiner (path_secret_for path.path m change.edits seed j)) (seal_seed seed) (path_seals path.path) xs ≡ Ok bytes
welcome_some c m change path joiner tag seed [] bytes h = absurd cc
welcome_some c m change path joiner tag seed (x ∷ xs) bytes h =
    let s = bind_ok _ _ _ h in
    let e : s.0 ≡ bytes = cc in
    s.1 ∙ ap Ok e

-- what a list adds, whoever commits it
adds_of : (kept : List KeptProposal) (i : ℕ) (list : List ProposalOrRef) (used : List Used) (k : KeyPackage) → find_proposals kept i list ≡ Ok used → list_any (bytes_eq (key_package.spell k)) (adds_in kept list) ≡ true → is_among k (adds used) ≡ true
unfolding adds_in
adds_of kept i list used k uses any =
    let a : IsUsedAlike kept 0 list used = used_for_other kept i 0 list used uses in
    ap (λ (xs : List KeyPackage). is_among k xs) (sym (ap (λ (r : Result (List Used) ℕ). adds (used_of r)) a.is ∙ a.adding)) ∙ any

zipped : (xs : List KeyPackage) (js : List ℕ) (x : KeyPackage) (j : ℕ) → IsOneOf (x, j) (zip xs js) → IsOneOf x xs
unfolding IsOneOf
zipped [] js x j is = absurd is
zipped (y ∷ xs) [] x j is = absurd is
zipped (y ∷ xs) (i ∷ js) x j (inl e) = inl (ap (λ (q : KeyPackage × ℕ). q.0) e)
zipped (y ∷ xs) (i ∷ js) x j (inr is) = inr (zipped xs js x j is)

-- ---- the next public state

module _ (c : Crypto) (m : Member) (list : List ProposalOrRef) (made : Made) (is : IsMade c m list made) (s : Makes c m list is.wants_path is.seed made) where
  commit_fits : commit.Fits (commit_of list s.path)
  commit_fits = commit_in (sent_of c m list s.path s.change) (commit_of list s.path) (tag_of m s.path s.change) (made_fits c m list is.wants_path is.seed made s is.good is.fits).fits (body_is c m list s.path s.change)

  pub next_of_made : IsNext c s.change
  unfolding commit_of
  next_of_made = is_next c m m.keys.leaf s.used (commit_of list s.path) (said_of m list s.path) (signature_of c m list s.path) s.change is.good (taken _ _ is.good.own is.good.is_own) s.below commit_fits s.uses s.change_is

  pub leaves_of_made : HasLeaves m.keys.leaf m.public s.change
  leaves_of_made = leaves_next c m.public m.keys.leaf s.used (commit_of list s.path) (said_of m list s.path) (signature_of c m list s.path) s.change (taken _ _ is.good.own is.good.is_own) s.change_is

-- ---- one that was added

-- the GroupInfo of the commit, and what is sealed to the joiner at leaf j
abbrev pub info_made : Crypto → Member → MadePath → Change → GroupInfo
info_made c m path change = info_of c m.signing (public_with change (tag_of m path change)) (tag_of m path change) m.keys.leaf

abbrev pub secret_made : Member → MadePath → Change → List ℕ → ℕ → Option (List ℕ)
secret_made m path change seed j = path_secret_for path.path m change.edits seed j

abbrev pub secrets_made : Member → MadePath → Change → List ℕ → ℕ → List ℕ
secrets_made m path change seed j = secrets_with (joiner_of m path change) (secret_made m path change seed j)

-- a candidate's KeyPackage is added by the commit, with the entry made for it, and where it joins
pub record Joining (c : Crypto) (m : Member) (list : List ProposalOrRef) (made : Made) (is : IsMade c m list made) (s : Makes c m list is.wants_path is.seed made) (welcome : List ℕ) (k : Candidate) : Type 0 where
  pub sent : Welcomes c (info_made c m s.path s.change) (joiner_of m s.path s.change) (secrets_made m s.path s.change is.seed) (seal_seed is.seed) (path_seals s.path.path) (zip (adds s.used) s.edits.added) welcome
  pub entry : HasEntry c (encrypted_info c (info_made c m s.path s.change) (joiner_of m s.path s.change)) (secrets_made m s.path s.change is.seed) (zip (adds s.used) s.edits.added) sent.entries k.offered
  pub offered : entry.offered ≡ k.offered
  pub joins : IsJoiner m.keys.leaf s.edits (entry.offered, entry.leaf)

welcome_is : (c : Crypto) (m : Member) (list : List ProposalOrRef) (made : Made) (wants_path : Bool) (seed : List ℕ) (s : Makes c m list wants_path seed made) (welcome : List ℕ) → made.welcome ≡ Some welcome → s.welcome ≡ Some welcome
unfolding made_of
welcome_is c m list made wants_path seed s welcome w = ap (λ (x : Made). x.welcome) s.made_is ∙ w

pub joining : (c : Crypto) (m : Member) (list : List ProposalOrRef) (made : Made) (is : IsMade c m list made) (s : Makes c m list is.wants_path is.seed made) (welcome : List ℕ) (k : Candidate) → made.welcome ≡ Some welcome → IsGoodCandidate c k →
    list_any (bytes_eq (key_package.spell k.offered)) (adds_in m.kept list) ≡ true → Joining c m list made is s welcome k
joining c m list made is s welcome k w good any =
    let joiner : List ℕ = joiner_of m s.path s.change in
    let xs : List KeyPackage = adds s.used in
    let js : List ℕ = s.edits.added in
    let some = welcome_some c m s.change s.path joiner (tag_of m s.path s.change) is.seed (zip xs js) welcome (s.welcome_is ∙ ap Ok (welcome_is c m list made is.wants_path is.seed s welcome w)) in
    let sent = welcome_did c (info_made c m s.path s.change) joiner (secrets_made m s.path s.change is.seed) (seal_seed is.seed) (path_seals s.path.path) (zip xs js) welcome some in
    let steps = edited_steps c m.public m.keys.leaf s.used s.edits s.edits_are in
    let count = adds_counted c m.public m.keys.leaf s.used s.edits s.edits_are in
    let entry = first_entry c (encrypted_info c (info_made c m s.path s.change) joiner) (secrets_made m s.path s.change is.seed) (seal_seed is.seed) (path_seals s.path.path) xs js sent.entries k.offered count
    steps.references (adds_of m.kept m.keys.leaf list s.used k.offered s.uses any) sent.entries_are in
    let fits = adds_fit s.used (used_fit c m m.keys.leaf list s.used is.good.kept is.fits s.uses) in
    let one : key_package.Fits entry.offered = at_one key_package.Fits entry.offered xs fits (zipped xs js entry.offered entry.leaf entry.joins) in
    record {
      sent = sent;
      entry = entry;
      offered = one_spelled key_package entry.offered k.offered one good.package_of (sym entry.spelled);
      joins = at_one (IsJoiner m.keys.leaf s.edits) (entry.offered, entry.leaf) (zip xs js) (edits_add c m.public m.keys.leaf s.used s.edits (taken _ _ is.good.own is.good.is_own) s.edits_are) entry.joins;
    }
