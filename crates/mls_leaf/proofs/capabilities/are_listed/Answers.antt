use Rattle.std.proofs.Common.{◌≡◌, ℕ, Bool, List, [], Result, Ok, true, false, inl, inr, ap, refl, sym, ◌∙◌}
use Rattle.mls_wire.specs.Faults.{number_of}
use Rattle.mls_wire.specs.declared.WireError.{WireError}
use Rattle.mls_leaf.specs.Faults.{Spells}
use Rattle.mls_leaf.specs.Leaf.{capabilities}
use Rattle.mls_leaf.specs.declared.leaf.Capabilities.{Capabilities}
use Rattle.mls_leaf.proofs.CapabilityLaws.{SpellLists, from_versions, from_suites, from_extensions, from_proposals, from_credentials, all_lists, first_list, list_there}
use Rattle.mls_leaf.proofs.capabilities.are_listed.Goals as goal
use Rattle.mls_leaf.proofs.capabilities.are_listed.Goals.{then-has_version, else-has_version}

abbrev answered : Bool → Result Bool WireError
answered listed = Ok listed

-- the lists that a reader of the bytes has in front of it
lists_in : (v : Capabilities) (bytes reader : List ℕ) → reader ≡ bytes → Spells capabilities v bytes → SpellLists (from_versions v) reader
lists_in v bytes reader e s = rw e (all_lists v bytes s)

pub returns-in_err-versions : goal.returns-in_err-versions
returns-in_err-versions c = λ v s.
    absurd (list_there v.versions (from_suites v) _ (number_of c.in_err-versions.field-0.0) (lists_in v c.args.bytes.now c.new-reader.result c.new-reader.ensures s) c.in_err-versions.ensures.0)

pub returns-in_err-cipher_suites : goal.returns-in_err-cipher_suites
returns-in_err-cipher_suites c = λ v s.
    let one = first_list v.versions (from_suites v) _ _ _ (lists_in v c.args.bytes.now c.new-reader.result c.new-reader.ensures s) c.in_ok-versions.ensures in
    absurd (list_there v.cipher_suites (from_extensions v) _ (number_of c.in_err-cipher_suites.field-0.0) one.1 c.in_err-cipher_suites.ensures.0)

pub returns-in_err-_extensions : goal.returns-in_err-_extensions
returns-in_err-_extensions c = λ v s.
    let one = first_list v.versions (from_suites v) _ _ _ (lists_in v c.args.bytes.now c.new-reader.result c.new-reader.ensures s) c.in_ok-versions.ensures in
    let two = first_list v.cipher_suites (from_extensions v) _ _ _ one.1 c.in_ok-cipher_suites.ensures in
    absurd (list_there v.extensions (from_proposals v) _ (number_of c.in_err-_extensions.field-0.0) two.1 c.in_err-_extensions.ensures.0)

pub returns-in_err-_proposals : goal.returns-in_err-_proposals
returns-in_err-_proposals c = λ v s.
    let one = first_list v.versions (from_suites v) _ _ _ (lists_in v c.args.bytes.now c.new-reader.result c.new-reader.ensures s) c.in_ok-versions.ensures in
    let two = first_list v.cipher_suites (from_extensions v) _ _ _ one.1 c.in_ok-cipher_suites.ensures in
    let three = first_list v.extensions (from_proposals v) _ _ _ two.1 c.in_ok-_extensions.ensures in
    absurd (list_there v.proposals (from_credentials v) _ (number_of c.in_err-_proposals.field-0.0) three.1 c.in_err-_proposals.ensures.0)

pub returns-in_err-credentials : goal.returns-in_err-credentials
returns-in_err-credentials c = λ v s.
    let one = first_list v.versions (from_suites v) _ _ _ (lists_in v c.args.bytes.now c.new-reader.result c.new-reader.ensures s) c.in_ok-versions.ensures in
    let two = first_list v.cipher_suites (from_extensions v) _ _ _ one.1 c.in_ok-cipher_suites.ensures in
    let three = first_list v.extensions (from_proposals v) _ _ _ two.1 c.in_ok-_extensions.ensures in
    let four = first_list v.proposals (from_credentials v) _ _ _ three.1 c.in_ok-_proposals.ensures in
    absurd (list_there v.credentials [] _ (number_of c.in_err-credentials.field-0.0) four.1 c.in_err-credentials.ensures.0)

pub returns-then-has_suite : goal.returns-then-has_suite
returns-then-has_suite c = λ v s.
    let one = first_list v.versions (from_suites v) _ _ _ (lists_in v c.args.bytes.now c.new-reader.result c.new-reader.ensures s) c.in_ok-versions.ensures in
    let two = first_list v.cipher_suites (from_extensions v) _ _ _ one.1 c.in_ok-cipher_suites.ensures in
    let three = first_list v.extensions (from_proposals v) _ _ _ two.1 c.in_ok-_extensions.ensures in
    let four = first_list v.proposals (from_credentials v) _ _ _ three.1 c.in_ok-_proposals.ensures in
    let five = first_list v.credentials [] _ _ _ four.1 c.in_ok-credentials.ensures in
    let has_version = c.is_listed-has_version.ensures v.versions one.0 in
    let has_suite = c.is_listed-has_suite.ensures v.cipher_suites two.0 in
    let has_credential = c.is_listed-has_credential.ensures v.credentials five.0 in
    rw (sym has_version ∙ c.if-has_suite.true.0, sym has_suite ∙ c.if-has_suite.true.1, has_credential) refl

pub returns-else-has_suite : goal.returns-else-has_suite
returns-else-has_suite c = λ v s.
    let one = first_list v.versions (from_suites v) _ _ _ (lists_in v c.args.bytes.now c.new-reader.result c.new-reader.ensures s) c.in_ok-versions.ensures in
    let two = first_list v.cipher_suites (from_extensions v) _ _ _ one.1 c.in_ok-cipher_suites.ensures in
    let three = first_list v.extensions (from_proposals v) _ _ _ two.1 c.in_ok-_extensions.ensures in
    let four = first_list v.proposals (from_credentials v) _ _ _ three.1 c.in_ok-_proposals.ensures in
    let five = first_list v.credentials [] _ _ _ four.1 c.in_ok-credentials.ensures in
    let has_version = c.is_listed-has_version.ensures v.versions one.0 in
    let has_suite = c.is_listed-has_suite.ensures v.cipher_suites two.0 in
    let has_credential = c.is_listed-has_credential.ensures v.credentials five.0 in
    elim c.if-has_version.branch [
      | then-has_version w ↦
          elim c.if-has_suite.either [
            | inl p ↦ rw (sym has_version ∙ p.0, sym has_suite ∙ p.1, w.t-59-is ∙ p.1) refl
            | inr q ↦ absurd (let no : true ≡ false = sym w.if-has_version.true ∙ q in cc)
          ]
      | else-has_version w ↦ rw (sym has_version ∙ w.if-has_version.false) (ap answered (w.t-59-is ∙ w.if-has_version.false))
    ]
