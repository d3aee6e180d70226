-- The Welcome of a made commit reads back, and opens at a candidate that it was made for.
use Rattle.std.proofs.Common.{◌≡◌, ℕ, ◌<◌, ◌≤◌, ◌^◌, ◌==◌, Bool, true, false, List, [], ◌∷◌, ◌++◌, length, Option, Some, None, Ok, refl, sym, ap, subst, ◌∙◌, arith, lit<, eq-eqb, eqb-true, cond, ltb, ◌+◌, length-append}
use Rattle.std.specs.Prelude.{codes, find}
use Rattle.std.specs.Int.{w8, w16, w32, to_be_bytes}
use Rattle.std.specs.List.{flat_map}
use Rattle.std.specs.Str.{bytes_eq}
use Rattle.mls_wire.specs.Laws.{ok_is}
use Rattle.mls_wire.specs.Reading.{uint, header, opaque}
use Rattle.mls_wire.specs.Combine.{optional, byte_string}
use Rattle.mls_treekem_model.specs.Seal.{ciphertext_of}
use Rattle.mls_leaf.specs.Limits.{input_limit}
use Rattle.mls_leaf.proofs.WholeLaws.{whole_again}
use Rattle.mls_leaf.specs.declared.key_package.KeyPackage.{KeyPackage}
use Rattle.mls_types.specs.GroupInfo.{group_info}
use Rattle.mls_types.specs.UpdatePath.{hpke_ciphertext}
use Rattle.mls_types.specs.Welcome.{encrypted_group_secrets, group_secrets, welcome}
use Rattle.mls_types.specs.declared.group_info.GroupInfo.{GroupInfo}
use Rattle.mls_types.specs.declared.welcome.EncryptedGroupSecrets.{EncryptedGroupSecrets}
use Rattle.mls_types.specs.declared.welcome.GroupSecrets.{GroupSecrets}
use Rattle.mls_types.specs.declared.welcome.Welcome.{Welcome}
use Rattle.mls_types.specs.Message.{mls_message}
use Rattle.mls_types.specs.declared.message.MlsMessage.{MlsMessage}
use Rattle.mls_types.specs.declared.message.MlsMessage.TheVariants as message
use Rattle.mls_suite.specs.Crypto.{Crypto, Sealing}
use Rattle.mls_suite.specs.Labels.{encrypt_with_label, decrypt_with_label}
use Rattle.mls_suite.proofs.LabelLaws.{opens_sealed}
use Rattle.mls_schedule.specs.Epoch.{welcome_key, welcome_nonce}
use Rattle.mls_model.specs.Candidate.{Candidate}
use Rattle.mls_model.specs.Messages.{decode_message, are_bytes, require_within_limit}
use Rattle.mls_model.specs.OpenedWelcome.{is_none_or_32, check_secret_lengths, opened_secrets, Opened, open_group_info, open_for_candidate, opened_welcome}
use Rattle.mls_model.specs.Proposals.{package_reference}
use Rattle.mls_model.specs.Welcome.{secrets_with, entry_for, welcome_message}
use Rattle.mls_wire.proofs.CheckLaws.{then_ok, bind_ok, given_ok}
use Rattle.mls_wire.specs.CheckLaws.{required}
use Rattle.mls_wire.specs.Checks.{passed}
use Rattle.mls_theorems.proofs.Fit.{short_first, short_last, short_text, cipher_fits, all_fit}
use Rattle.mls_theorems.proofs.Sent.{within_is}
use Rattle.mls_theorems.specs.OpenedWelcomes.{encrypted_info, welcome_of, WelcomeDid, WelcomeReads, SecretsOpen, WelcomeOpens}
use Rattle.std.proofs.lemmas.Bool.{and_parts}
use Rattle.mls_wire.specs.Whole.{whole}

bytes_are : (bytes : List ℕ) → require_within_limit bytes ≡ Ok passed → are_bytes bytes ≡ true
unfolding require_within_limit
bytes_are bytes h = (and_parts _ _ (required _ _ _ h)).1

pub welcome_did : WelcomeDid
unfolding welcome_message welcome_of encrypted_info
welcome_did c info joiner secrets rnd n joiners bytes h =
    let s1 = then_ok _ _ _ h in
    let s2 = bind_ok _ _ _ s1.1 in
    let s3 = then_ok _ _ _ s2.2 in
    record { entries = s2.0; entries_are = s2.1; info_short = s1.0; bytes_are = ok_is _ _ s3.1; short = s3.0 }

-- ---- it reads back

entry_fits : (x : EncryptedGroupSecrets) → length (encrypted_group_secrets.spell x) < 2 ^ 30 → encrypted_group_secrets.Fits x
unfolding encrypted_group_secrets
entry_fits x lt = (
  short_text x.new_member _ (short_first (opaque x.new_member) (hpke_ciphertext.spell x.encrypted_group_secrets) _ lt),
  cipher_fits x.encrypted_group_secrets (short_last (opaque x.new_member) (hpke_ciphertext.spell x.encrypted_group_secrets) _ lt),
)

welcome_fits : (w : Welcome) → w.cipher_suite < 2 ^ 16 → length (mls_message.spell (message.Welcome w)) < 2 ^ 30 → mls_message.Fits (message.Welcome w)
unfolding mls_message welcome
welcome_fits w n lt =
    let t4 : List ℕ = opaque w.encrypted_group_info in
    let t3 : List ℕ = opaque (flat_map encrypted_group_secrets.spell w.secrets) ++ t4 in
    let t2 : List ℕ = uint w16 w.cipher_suite ++ t3 in
    let t1 : List ℕ = uint w16 3 ++ t2 in
    let l1 : length t1 < 2 ^ 30 = short_last (uint w16 1) t1 _ lt in
    let l2 : length t2 < 2 ^ 30 = short_last (uint w16 3) t2 _ l1 in
    let l3 : length t3 < 2 ^ 30 = short_last (uint w16 w.cipher_suite) t3 _ l2 in
    let inner : length (flat_map encrypted_group_secrets.spell w.secrets) < 2 ^ 30 = short_text _ _ (short_first (opaque (flat_map encrypted_group_secrets.spell w.secrets)) t4 _ l3) in
    let last : length w.encrypted_group_info < 2 ^ 30 = short_text _ _ (short_last (opaque (flat_map encrypted_group_secrets.spell w.secrets)) t4 _ l3) in
    (lit< tt, (n, ((all_fit encrypted_group_secrets entry_fits w.secrets inner, inner), last)))

number_fits : (c : Crypto) (info : GroupInfo) (joiner : List ℕ) (entries : List EncryptedGroupSecrets) → c.number < 2 ^ 16 → (welcome_of c info joiner entries).cipher_suite < 2 ^ 16
unfolding welcome_of
number_fits c info joiner entries n = n

pub welcome_reads : WelcomeReads
unfolding decode_message
welcome_reads c number info joiner secrets rnd n joiners bytes w =
    let v : Welcome = welcome_of c info joiner w.entries in
    let p : MlsMessage = message.Welcome v in
    let short : length (mls_message.spell p) ≤ input_limit = within_is _ w.short in
    let fits : mls_message.Fits p = welcome_fits v (number_fits c info joiner w.entries number) (omega arith) in
    ap (λ (b : List ℕ). whole mls_message input_limit b) (sym w.bytes_are) ∙ whole_again mls_message input_limit (mls_message.spell p) p (record { fits = fits; spelled = refl }) short

-- ---- it opens

short_of : (b : Bool) (x y : List ℕ) → length x ≤ 4 → length y ≤ 4 → length (cond b x y) ≤ 4
short_of true x y h k = h
short_of false x y h k = k

header_short : (n : ℕ) → length (header n) ≤ 4
unfolding header
header_short n = short_of (ltb n 64) (n ∷ []) (cond (ltb n 16384) (to_be_bytes w16 (16384 + n)) (to_be_bytes w32 (2147483648 + n))) (omega arith)
    (short_of (ltb n 16384) (to_be_bytes w16 (16384 + n)) (to_be_bytes w32 (2147483648 + n)) (omega arith) (omega arith))

text_short : (text : List ℕ) → length (opaque text) ≤ 4 + length text
text_short text = omega (arith, header_short (length text), length-append (header (length text)) text)

path_secret_short : (path_secret : Option (List ℕ)) → is_none_or_32 path_secret ≡ true → length ((optional byte_string).spell path_secret) ≤ 37
unfolding uint
path_secret_short None p = omega arith
path_secret_short (Some secret) p = omega (arith, text_short secret, eqb-true _ _ p, length-append (uint w8 1) (opaque secret))

path_secret_fits : (path_secret : Option (List ℕ)) → is_none_or_32 path_secret ≡ true → (optional byte_string).Fits path_secret
path_secret_fits None p = (lit< tt, tt)
path_secret_fits (Some secret) p = (lit< tt, omega (arith, eqb-true _ _ p))

abbrev secrets_of : List ℕ → Option (List ℕ) → GroupSecrets
secrets_of joiner path_secret = record { joiner_secret = joiner; path_secret = path_secret; psks = [] }

-- the secrets that were sealed to a candidate
secrets_spelled : (joiner : List ℕ) (path_secret : Option (List ℕ)) → length joiner ≡ 32 → is_none_or_32 path_secret ≡ true → whole group_secrets input_limit (secrets_with joiner path_secret) ≡ Ok (secrets_of joiner path_secret)
unfolding secrets_with group_secrets
secrets_spelled joiner path_secret j p =
    let t : List ℕ = (optional byte_string).spell path_secret in
    let long : length (opaque joiner ++ (t ++ opaque [])) ≤ input_limit =
    omega (arith, text_short joiner, text_short [], path_secret_short path_secret p, length-append (opaque joiner) (t ++ opaque []), length-append t (opaque [])) in
    whole_again group_secrets input_limit (group_secrets.spell (secrets_of joiner path_secret)) (secrets_of joiner path_secret)
    (record { fits = (omega arith, (path_secret_fits path_secret p, lit< tt)); spelled = refl }) long

abbrev pub record_of : List ℕ → Sealing → EncryptedGroupSecrets
record_of reference s = record { new_member = reference; encrypted_group_secrets = ciphertext_of s }

-- what was sealed for a candidate
pub record IsEntry (c : Crypto) (context : List ℕ) (offered : KeyPackage) (secrets rnd : List ℕ) (entry : EncryptedGroupSecrets) : Type 0 where
  pub sealing : Sealing
  pub seals : encrypt_with_label c offered.init_key (codes "Welcome") context secrets rnd ≡ Some sealing
  pub is : record_of (package_reference offered) sealing ≡ entry

pub entry_did : (c : Crypto) (context : List ℕ) (offered : KeyPackage) (secrets rnd : List ℕ) (entry : EncryptedGroupSecrets) → entry_for c context offered secrets rnd ≡ Ok entry → IsEntry c context offered secrets rnd entry
unfolding entry_for
entry_did c context offered secrets rnd entry h = let s = bind_ok _ _ _ h in record { sealing = s.0; seals = given_ok _ _ _ s.1; is = ok_is _ _ s.2 }

secrets_by : (c : Crypto) (k : Candidate) (w : Welcome) (entry : EncryptedGroupSecrets) (bytes joiner : List ℕ) (path_secret : Option (List ℕ)) →
    decrypt_with_label c k.init (codes "Welcome") w.encrypted_group_info entry.encrypted_group_secrets.kem_output entry.encrypted_group_secrets.ciphertext ≡ Some bytes →
    whole group_secrets input_limit bytes ≡ Ok (secrets_of joiner path_secret) → (length joiner == 32) ≡ true → is_none_or_32 path_secret ≡ true → opened_secrets c k w entry ≡ Ok (secrets_of joiner path_secret)
unfolding opened_secrets check_secret_lengths
secrets_by c k w entry bytes joiner path_secret e1 e2 e3 e4 = rw (e1, e2, e3, e4) refl

pub secrets_open : SecretsOpen
secrets_open c laws k offered w joiner path_secret rnd entry init h j p =
    let d : IsEntry c w.encrypted_group_info offered (secrets_with joiner path_secret) rnd entry = entry_did c w.encrypted_group_info offered (secrets_with joiner path_secret) rnd entry h in
    let sealed : encrypt_with_label c (c.public k.init) (codes "Welcome") w.encrypted_group_info (secrets_with joiner path_secret) rnd ≡ Some d.sealing =
    ap (λ (key : List ℕ). encrypt_with_label c key (codes "Welcome") w.encrypted_group_info (secrets_with joiner path_secret) rnd) (sym init) ∙ d.seals in
    let opens : decrypt_with_label c k.init (codes "Welcome") w.encrypted_group_info d.sealing.kem d.sealing.ct ≡ Some (secrets_with joiner path_secret) = opens_sealed c laws k.init (codes "Welcome") w.encrypted_group_info _ rnd d.sealing sealed in
    secrets_by c k w entry (secrets_with joiner path_secret) joiner path_secret
    (subst (λ (e : EncryptedGroupSecrets). decrypt_with_label c k.init (codes "Welcome") w.encrypted_group_info e.encrypted_group_secrets.kem_output e.encrypted_group_secrets.ciphertext ≡ Some (secrets_with joiner path_secret)) d.is opens)
    (secrets_spelled joiner path_secret j p) (eq-eqb _ _ j) p

-- the whole Welcome, where the first entry under the candidate's reference was sealed to its init key
abbrev opened_as : GroupInfo → List ℕ → Option (List ℕ) → Opened
opened_as info joiner path_secret = record { joiner = joiner; path_secret = path_secret; bytes = group_info.spell info; info = info }

opened_by : (c : Crypto) (k : Candidate) (bytes : List ℕ) (w : Welcome) (entry : EncryptedGroupSecrets) (info : GroupInfo) (joiner : List ℕ) (path_secret : Option (List ℕ)) →
    decode_message bytes ≡ Ok (message.Welcome w) → (w.cipher_suite == c.number) ≡ true → find (λ (e : EncryptedGroupSecrets). bytes_eq e.new_member (package_reference k.offered)) w.secrets ≡ Some entry →
    opened_secrets c k w entry ≡ Ok (secrets_of joiner path_secret) → c.aead_open (welcome_key joiner) (welcome_nonce joiner) [] w.encrypted_group_info ≡ Some (group_info.spell info) →
    are_bytes (group_info.spell info) ≡ true → whole group_info input_limit (group_info.spell info) ≡ Ok info → (info.group_context.cipher_suite == c.number) ≡ true → opened_welcome c k bytes ≡ Ok (opened_as info joiner path_secret)
unfolding opened_welcome open_for_candidate open_group_info
opened_by c k bytes w entry info joiner path_secret e1 e2 e3 e4 e5 e6 e7 e8 = rw (e1, e2, e3, e4, e5, e6, e7, e8) refl

pub welcome_opens : WelcomeOpens
unfolding welcome_of encrypted_info
welcome_opens c laws number info joiner secrets rnd n joiners bytes w k offered path_secret seed entry found init h j p fits suite =
    let v : Welcome = welcome_of c info joiner w.entries in
    opened_by c k bytes v entry info joiner path_secret
    (welcome_reads c number info joiner secrets rnd n joiners bytes w) (eq-eqb _ _ refl) found
    (secrets_open c laws k offered v joiner path_secret seed entry init h j p)
    (laws.opens (welcome_key joiner) (welcome_nonce joiner) [] (group_info.spell info))
    (bytes_are _ w.info_short)
    (whole_again group_info input_limit (group_info.spell info) info (record { fits = fits; spelled = refl }) (within_is _ w.info_short))
    (eq-eqb _ _ suite)
