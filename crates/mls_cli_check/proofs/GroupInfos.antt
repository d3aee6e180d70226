-- What is said of a GroupInfo follows from its parts.
use Rattle.std.proofs.Common.{◌≡◌, ◌≢◌, ◌∙◌, ◌<◌, ◌^◌, ℕ, true, false, List, [], ◌∷◌, ◌++◌, codes, Result, Ok, Err, length, ap, ap₂, arith, map, refl, subst, append_assoc}
use Rattle.std.specs.Prelude.{IfOk, IsErr, MatchResult}
use Rattle.std.specs.Global.{Vec}
use Rattle.std.specs.declared.alloc.AllocError.{AllocError}
use Rattle.std.specs.Str.{bytes_eq}
use Rattle.mls_wire.specs.Checks.{Answers, Passed, passed}
use Rattle.mls_wire.specs.Reading.{◌>>=◌}
use Rattle.mls_wire.specs.Whole.{whole}
use Rattle.mls_leaf.specs.Faults.{Fails, Spells, Writes, number_of}
use Rattle.mls_leaf.specs.Limits.{input_limit}
use Rattle.mls_leaf.specs.declared.error.LeafError.{LeafError}
use Rattle.mls_types.specs.Message.{mls_message}
use Rattle.mls_types.specs.declared.group_info.GroupInfo.{GroupInfo}
use Rattle.mls_types.specs.declared.message.MlsMessage.{MlsMessage}
use Rattle.mls_types.specs.declared.message.MlsMessage.TheVariants as message
use Rattle.mls_cli_text.specs.Page.{Page, good, page_of, refused}
use Rattle.mls_cli_text.specs.Text.{Entry, entry_of}
use Rattle.mls_cli_text.specs.declared.page.Page as code
use Rattle.mls_cli_text.specs.declared.page.Ending.{Ending}
use Rattle.mls_cli_text.specs.declared.page.Ending.TheVariants.{Good, Failed, Refused}
use Rattle.mls_cli_text.specs.declared.text.Line.{Line}
use Rattle.mls_cli_check.specs.Check.{ok_line, page_behind, signature_word, word_line}
use Rattle.mls_types.specs.GroupInfo.{group_info}
use Rattle.mls_checks.specs.Short.{IsShort}
use Rattle.mls_checks.proofs.SignedLaws.{written_is}
use Rattle.mls_tree_model.specs.Term.{Term}
use Rattle.mls_tree_model.specs.Hashes.{tree_hash}
use Rattle.mls_suite.specs.Crypto.{Crypto}
use Rattle.mls_cli_check.specs.CheckFaults.{number_of as check_number_of}
use Rattle.mls_cli_check.specs.declared.check_error.CheckError.{CheckError}
use Rattle.mls_cli_check.specs.GroupInfo.{group_info_in, group_info_of, info_checks, page_if, page_then, signer_checks, signer_report}
use Rattle.mls_cli_check.proofs.InfoLengths.{short_info, within_limit}
use Rattle.mls_cli_check.proofs.SentTrees.{fault_then}

-- bytes that spell no message have no GroupInfo
pub no_message : (bytes : List ℕ) (e : LeafError) → Fails e (whole mls_message input_limit bytes) → number_of e ≢ 1 → group_info_in bytes ≡ Err (number_of e)
unfolding group_info_in
no_message bytes e h ne = fault_then e (whole mls_message input_limit bytes) group_info_of h ne

-- else the kind of the message decides
pub of_message : (bytes : List ℕ) (m : MlsMessage) (r : Result GroupInfo ℕ) → whole mls_message input_limit bytes ≡ Ok m → group_info_of m ≡ r → group_info_in bytes ≡ r
unfolding group_info_in
of_message bytes m r e h = ap (λ (x : Result MlsMessage ℕ). x >>= group_info_of) e ∙ h

pub answered : (bytes : List ℕ) (m : MlsMessage) (r : Result GroupInfo CheckError) → whole mls_message input_limit bytes ≡ Ok m
    → Answers (λ (info : GroupInfo). info) check_number_of (group_info_of m) r → Answers (λ (info : GroupInfo). info) check_number_of (group_info_in bytes) r
answered bytes m (Ok info) e h = of_message bytes m (Ok info) e h
answered bytes m (Err x) e h = λ ne. of_message bytes m (Err (check_number_of x)) e (h ne)

is_info : (m : MlsMessage) (info : GroupInfo) → group_info_of m ≡ Ok info → m ≡ message.GroupInfo info
is_info (message.GroupInfo v) info e = let same : v ≡ info = cc in ap (λ (x : GroupInfo). message.GroupInfo x) same
is_info (message.PublicMessage v) info e = absurd cc
is_info (message.Welcome v) info e = absurd cc
is_info (message.KeyPackage v) info e = absurd cc

pub read_short : (bytes : List ℕ) (m : MlsMessage) (r : Result GroupInfo CheckError) → Spells mls_message m bytes → whole mls_message input_limit bytes ≡ Ok m
    → Answers (λ (info : GroupInfo). info) check_number_of (group_info_of m) r → IfOk r (λ info. IsShort group_info info)
read_short bytes m (Ok info) spells e h =
    short_info bytes info (subst (λ (k : MlsMessage). Spells mls_message k bytes) (is_info m info h) spells) (within_limit mls_message bytes m e)
read_short bytes m (Err x) spells e h = tt

-- bytes with a GroupInfo spell a message
pub no_info : (bytes : List ℕ) (info : GroupInfo) (n : ℕ) → group_info_in bytes ≡ Ok info → whole mls_message input_limit bytes ≡ Err n → ⊥
unfolding group_info_in
no_info bytes info n is h =
    let refused : group_info_in bytes ≡ Err n = ap (λ (x : Result MlsMessage ℕ). x >>= group_info_of) h in cc

-- lines behind others are those behind all of them
pub regrouped : (xs ys : List Entry) (p : Page Entry) → page_behind (xs ++ ys) p ≡ page_behind xs (page_behind ys p)
regrouped xs ys p = ap (λ es. record { entries = es; ending = p.ending }) (append_assoc xs ys p.entries)

-- a page that ends good goes on, and any other is all
goes_on : (ending : Ending) (first second : Page Entry) → ending ≡ Good → page_behind first.entries second ≡ page_if ending first second
goes_on Good first second e = refl
goes_on Failed first second e = absurd cc
goes_on (Refused n) first second e = absurd cc

stays : (ending : Ending) (first second : Page Entry) → ending ≢ Good → first ≡ page_if ending first second
stays Good first second ne = absurd (ne refl)
stays Failed first second ne = refl
stays (Refused n) first second ne = refl

pub good_goes_on : (page : code.Page Line) (second : Page Entry) (r : Result (code.Page Line) AllocError) → page.ending ≡ Good
    → IfOk r (λ p. page_of entry_of p ≡ page_behind (map entry_of page.lines.items) second) → IfOk r (λ p. page_of entry_of p ≡ page_then (page_of entry_of page) second)
good_goes_on page second (Ok p) good h = h ∙ goes_on page.ending (page_of entry_of page) second good
good_goes_on page second (Err e) good h = tt

pub other_stays : (page : code.Page Line) (second : Page Entry) → page.ending ≢ Good → page_of entry_of page ≡ page_then (page_of entry_of page) second
other_stays page second ne = stays page.ending (page_of entry_of page) second ne

pub page_same : (r : Result (code.Page Line) AllocError) (a b : Page Entry) → a ≡ b → IfOk r (λ p. page_of entry_of p ≡ a) → IfOk r (λ p. page_of entry_of p ≡ b)
page_same (Ok p) a b e h = h ∙ e
page_same (Err n) a b e h = tt

pub then_same : (r : Result (code.Page Line) AllocError) (a b x y : Page Entry) → a ≡ b → x ≡ y
    → IfOk r (λ p. page_of entry_of p ≡ page_then a x) → IfOk r (λ p. page_of entry_of p ≡ page_then b y)
then_same (Ok p) a b x y e f h = h ∙ ap₂ page_then e f
then_same (Err n) a b x y e f h = tt

-- ---- the GroupInfo's own lines

-- where the refusal is none for want of memory, it is what the definition has
pub refused_or_wanting : (front : List Entry) (n : ℕ) (q : Page Entry) (r : Result (code.Page Line) AllocError)
    → IfOk r (λ p. n ≢ 1) → IfOk r (λ p. page_of entry_of p ≡ page_behind front (refused n)) → (n ≢ 1 → refused n ≡ q) → IfOk r (λ p. page_of entry_of p ≡ page_behind front q)
refused_or_wanting front n q (Ok p) ne is h = is ∙ ap (page_behind front) (h ne)
refused_or_wanting front n q (Err e) ne is h = tt

pub signer_line : (c : Crypto) (checks : Result Passed ℕ) (front all : List Entry) (line : Entry)
    → checks ≡ Ok passed → all ≡ front ++ line ∷ [] → line ≡ word_line (codes "group_info signature") (signature_word c) → good all ≡ page_behind front (signer_report c checks)
signer_line c checks front all line e a l = rw (e, a, l) refl

pub signer_refused : (c : Crypto) (checks : Result Passed ℕ) (n : ℕ) → checks ≡ Err n → refused n ≡ signer_report c checks
signer_refused c checks n e = rw e refl

pub hash_differs : (c : Crypto) (info : GroupInfo) (t : Term) → bytes_eq info.group_context.tree_hash (tree_hash 0 t) ≡ false → refused 77 ≡ info_checks c info t
unfolding info_checks
hash_differs c info t e = rw e refl

pub hash_matches : (c : Crypto) (info : GroupInfo) (t u : Term) (front all : List Entry) (line : Entry) → bytes_eq info.group_context.tree_hash (tree_hash 0 t) ≡ true
    → u ≡ t → all ≡ front ++ line ∷ [] → line ≡ ok_line (codes "tree_hash matches") → page_behind all (signer_report c (signer_checks c info u)) ≡ page_behind front (info_checks c info t)
unfolding info_checks
hash_matches c info t u front all line e same a l =
    rw (a, l, e, same) (regrouped front (ok_line (codes "tree_hash matches") ∷ []) (signer_report c (signer_checks c info t)))

-- ---- what the signer signs

pub bytes_written : (P : Type 0) (bytes : List ℕ) (w : Result (Vec ℕ) LeafError) (r : Result (Vec ℕ) AllocError)
    → MatchResult r (λ v. w ≡ Ok v) (λ _. IsErr w) → Writes P bytes w → IfOk r (λ v. v.items ≡ bytes)
bytes_written P bytes w (Ok v) is written = written_is P bytes w v is written
bytes_written P bytes w (Err e) is written = tt

pub bytes_short : (bytes : List ℕ) (r : Result (Vec ℕ) AllocError) → IfOk r (λ v. v.items ≡ bytes) → length bytes < 2 ^ 28 → IfOk r (λ v. length v.items < 2 ^ 30)
bytes_short bytes (Ok v) is short = let same : length v.items ≡ length bytes = ap length is in omega arith
bytes_short bytes (Err e) is short = tt
