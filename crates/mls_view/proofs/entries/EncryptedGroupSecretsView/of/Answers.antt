use Rattle.std.proofs.Common.{◌≡◌, ◌∙◌, List, ℕ, ap, subst, sym}
use Rattle.mls_types.specs.Welcome.{encrypted_group_secrets}
use Rattle.mls_view.specs.Entries.{ShowsSecrets}
use Rattle.mls_view.proofs.EntriesLemmas.{shown_of, no_fault_of}
use Rattle.mls_view.specs.Views.{Lends}
use Rattle.mls_view.proofs.entries.EncryptedGroupSecretsView.of.Goals as goal

pub returns-in-Ok : goal.returns-in-Ok
returns-in-Ok c =
    let begins : c.new-reader.result ≡ c.args.entry.now = c.new-reader.ensures ∙ c.bytes.ensures.same in
    λ shown spells. shown_of encrypted_group_secrets ShowsSecrets shown c.args.entry.now c.read_secrets.new.reader c.in-Ok.view spells (subst (λ (l : List ℕ). Lends encrypted_group_secrets ShowsSecrets l c.in-Ok.view c.read_secrets.new.reader) begins c.in-Ok.ensures)

pub returns-in-Err : goal.returns-in-Err
returns-in-Err c =
    let begins : c.new-reader.result ≡ c.args.entry.now = c.new-reader.ensures ∙ c.bytes.ensures.same in
    λ shown spells. absurd (no_fault_of encrypted_group_secrets shown c.args.entry.now _ spells (ap encrypted_group_secrets.read (sym begins) ∙ c.in-Err.ensures))
