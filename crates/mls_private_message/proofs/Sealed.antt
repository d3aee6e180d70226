-- What was sealed opens.
use Rattle.std.proofs.Common.{◌≡◌, ℕ, List, [], Option, Result, Ok, sym, ap, ◌∙◌, append-nil}
use Rattle.mls_wire.specs.Reading.{◌>>=◌}
use Rattle.mls_wire.specs.Checks.{require_some}
use Rattle.mls_suite.specs.Crypto.{Crypto, Lawful}
use Rattle.mls_private_message.specs.declared.sender_data.SenderData.{SenderData}
use Rattle.mls_private_message.specs.SenderData.{sender_data, only_value, whole_sender_data}
use Rattle.mls_private_message.specs.Sealing.{seal_sender_data, open_sender_data, seal_content, open_content}
use Rattle.mls_private_message.specs.Laws.{SealedOpens}

read_whole : (v : SenderData) → sender_data.Fits v → require_some 113 (whole_sender_data (sender_data.spell v)) ≡ Ok v
unfolding whole_sender_data
read_whole v fits =
    ap (λ (bytes : List ℕ). require_some 113 (only_value (sender_data.read bytes))) (sym (append-nil (sender_data.spell v)))
    ∙ ap (λ (r : Result (SenderData × List ℕ) ℕ). require_some 113 (only_value r)) (sender_data.lawful.again v [] fits)

pub opens : (c : Crypto) (laws : Lawful c) → SealedOpens c
unfolding open_sender_data seal_sender_data open_content seal_content
opens c laws = λ secret key sender group_id epoch authenticated_data text fits. record {
  sender_data =
      ap (λ (o : Option (List ℕ)). require_some 113 o >>= λ bytes. require_some 113 (whole_sender_data bytes)) (laws.opens _ _ _ (sender_data.spell sender))
      ∙ read_whole sender fits;
  content = ap (λ (o : Option (List ℕ)). require_some 117 o) (laws.opens _ _ _ text);
}
