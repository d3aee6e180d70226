-- What the laws of a suite say of the labelled calls.
use Rattle.mls_suite.specs.Crypto.{Crypto, Lawful}
use Rattle.mls_suite.specs.Labels.{sign_with_label, verify_with_label, encrypt_with_label, decrypt_with_label}
use Rattle.mls_suite.specs.LabelLaws.{VerifiesSigned, OpensSealed, SealsWhereFit, SignsShort}

pub verifies_signed : (c : Crypto) (laws : Lawful c) → VerifiesSigned c
unfolding verify_with_label sign_with_label
verifies_signed c laws = λ sk label content. laws.verifies sk _

pub opens_sealed : (c : Crypto) (laws : Lawful c) → OpensSealed c
unfolding encrypt_with_label decrypt_with_label
opens_sealed c laws = λ sk label context pt rnd s e. laws.unseals sk _ pt rnd s e

pub seals_where_fit : (c : Crypto) (laws : Lawful c) → SealsWhereFit c
unfolding encrypt_with_label
seals_where_fit c laws = record {
  exactly = λ pk label context pt rnd. laws.seals pk _ pt rnd;
  public = λ sk label context pt rnd. rw (laws.seals (c.public sk) _ pt rnd) (laws.public_ok sk);
}

pub signs_short : (c : Crypto) (laws : Lawful c) → SignsShort c
unfolding sign_with_label
signs_short c laws = λ sk label content. laws.sign_short sk _
