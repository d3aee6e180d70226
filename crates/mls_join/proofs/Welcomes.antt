-- What a message is read as, and what a Welcome opens.
use Rattle.std.proofs.Common.{◌≡◌, ℕ, suc, ◌<◌, ◌==◌, Bool, true, false, ◌&&◌, List, [], ◌∷◌, length, Result, Ok, Err, refl, sym, ap, subst, ◌∙◌, lt-ltb}
use Rattle.std.specs.Prelude.{nat_lt, ◌^◌}
use Rattle.std.specs.List.{list_all}
use Rattle.std.proofs.lemmas.Bool.{eq-eqb}
use Rattle.mls_wire.specs.Checks.{Passed, passed, require_some, require, ◌>>◌}
use Rattle.mls_wire.specs.Reading.{◌>>=◌}
use Rattle.mls_wire.specs.Format.{IsBytes}
use Rattle.mls_wire.specs.Whole.{whole}
use Rattle.mls_leaf.specs.Limits.{input_limit}
use Rattle.mls_types.specs.Welcome.{welcome}
use Rattle.mls_types.specs.declared.welcome.Welcome.{Welcome}
use Rattle.mls_types.specs.Message.{mls_message}
use Rattle.mls_types.specs.declared.message.MlsMessage.{MlsMessage}
use Rattle.mls_types.specs.declared.message.MlsMessage.TheVariants as sent
use Rattle.mls_view.specs.declared.message.MessageView.{MessageView}
use Rattle.mls_view.specs.declared.message.MessageView.TheVariants as views
use Rattle.mls_view.specs.declared.welcome.WelcomeView.{WelcomeView}
use Rattle.mls_view.specs.Views.{LendsAll}
use Rattle.mls_view.specs.Shown.{Shows}
use Rattle.mls_suite.specs.Crypto.{Crypto}
use Rattle.mls_model.specs.Candidate.{Candidate}
use Rattle.mls_model.specs.Messages.{decode_message, are_bytes}
use Rattle.mls_model.specs.OpenedWelcome.{Opened, opened_welcome, welcome_in, open_for_candidate, open_group_info}
use Rattle.mls_join.specs.Entrance.{welcome_outer_checks}
use Rattle.mls_join.specs.Stages.{read_welcome, read_welcome_of_suite, IsShownIn}

-- a fault of decoding
pub fault_read : (bytes : List ℕ) (n : ℕ) → whole mls_message input_limit bytes ≡ Err n → read_welcome bytes ≡ Err n
unfolding read_welcome decode_message
fault_read bytes n e = rw e refl

message_read : (bytes : List ℕ) (m : MlsMessage) → whole mls_message input_limit bytes ≡ Ok m → read_welcome bytes ≡ require_some 70 (welcome_in m)
unfolding read_welcome decode_message
message_read bytes m e = rw e refl

shown_welcome : (bytes : List ℕ) (view : WelcomeView) (m : MlsMessage) → whole mls_message input_limit bytes ≡ Ok m → Shows (views.Welcome view) m → IsShownIn bytes view
shown_welcome bytes view (sent.PublicMessage x) e shows = absurd shows
shown_welcome bytes view (sent.Welcome x) e shows = record { value = x; is_read = message_read bytes (sent.Welcome x) e; shows = shows }
shown_welcome bytes view (sent.GroupInfo x) e shows = absurd shows
shown_welcome bytes view (sent.KeyPackage x) e shows = absurd shows

-- a view of a Welcome shows the Welcome that the bytes are
pub lent_welcome : (bytes : List ℕ) (view : WelcomeView) (whole_view : MessageView) → whole_view ≡ views.Welcome view → LendsAll mls_message input_limit Shows bytes whole_view → IsShownIn bytes view
lent_welcome bytes view whole_view is lends = shown_welcome bytes view lends.value lends.is_read (subst (λ (x : MessageView). Shows x lends.value) is lends.shows)

other_shown : (bytes : List ℕ) (view : MessageView) (m : MlsMessage) → ((x : WelcomeView) → view ≡ views.Welcome x → ⊥) → whole mls_message input_limit bytes ≡ Ok m → Shows view m → read_welcome bytes ≡ Err 70
other_shown bytes (views.Welcome v) m other e shows = absurd (other v refl)
other_shown bytes (views.PublicMessage v) (sent.PublicMessage x) other e shows = message_read bytes (sent.PublicMessage x) e
other_shown bytes (views.PublicMessage v) (sent.Welcome x) other e shows = absurd shows
other_shown bytes (views.PublicMessage v) (sent.GroupInfo x) other e shows = absurd shows
other_shown bytes (views.PublicMessage v) (sent.KeyPackage x) other e shows = absurd shows
other_shown bytes (views.GroupInfo v) (sent.PublicMessage x) other e shows = absurd shows
other_shown bytes (views.GroupInfo v) (sent.Welcome x) other e shows = absurd shows
other_shown bytes (views.GroupInfo v) (sent.GroupInfo x) other e shows = message_read bytes (sent.GroupInfo x) e
other_shown bytes (views.GroupInfo v) (sent.KeyPackage x) other e shows = absurd shows
other_shown bytes (views.KeyPackage v) (sent.PublicMessage x) other e shows = absurd shows
other_shown bytes (views.KeyPackage v) (sent.Welcome x) other e shows = absurd shows
other_shown bytes (views.KeyPackage v) (sent.GroupInfo x) other e shows = absurd shows
other_shown bytes (views.KeyPackage v) (sent.KeyPackage x) other e shows = message_read bytes (sent.KeyPackage x) e

-- a view of another message: 70
pub lent_other : (bytes : List ℕ) (view : MessageView) → ((x : WelcomeView) → view ≡ views.Welcome x → ⊥) → LendsAll mls_message input_limit Shows bytes view → read_welcome bytes ≡ Err 70
lent_other bytes view other lends = other_shown bytes view lends.value other lends.is_read lends.shows

-- ---- the outer checks

outer_is : (r : Result MlsMessage ℕ) (f : Welcome → Result Passed ℕ) → (r >>= λ outer. require_some 70 (welcome_in outer) >>= f) ≡ ((r >>= λ outer. require_some 70 (welcome_in outer)) >>= f)
outer_is (Ok m) f = refl
outer_is (Err n) f = refl

outer_read : (number : ℕ) (bytes : List ℕ) → welcome_outer_checks number bytes ≡ (read_welcome bytes >>= λ w. require 71 (w.cipher_suite == number))
unfolding welcome_outer_checks read_welcome
outer_read number bytes = outer_is (decode_message bytes) (λ w. require 71 (w.cipher_suite == number))

-- they fail with the fault of the Welcome
pub outer_fault : (number : ℕ) (bytes : List ℕ) (n m : ℕ) → read_welcome bytes ≡ Err n → welcome_outer_checks number bytes ≡ Err m → n ≡ m
outer_fault number bytes n m e h = let same : welcome_outer_checks number bytes ≡ Err n = outer_read number bytes ∙ rw e refl in cc

-- where there is one, they ask for its suite
pub outer_suits : (number : ℕ) (bytes : List ℕ) (w : Welcome) → read_welcome bytes ≡ Ok w → welcome_outer_checks number bytes ≡ require 71 (w.cipher_suite == number)
outer_suits number bytes w e = outer_read number bytes ∙ rw e refl

-- so has the Welcome of the suite
pub suited_fault : (number : ℕ) (bytes : List ℕ) (n : ℕ) → read_welcome bytes ≡ Err n → read_welcome_of_suite number bytes ≡ Err n
unfolding read_welcome_of_suite
suited_fault number bytes n e = rw e refl

suited_is : (number : ℕ) (bytes : List ℕ) (w : Welcome) → read_welcome bytes ≡ Ok w → read_welcome_of_suite number bytes ≡ (require 71 (w.cipher_suite == number) >> Ok w)
unfolding read_welcome_of_suite
suited_is number bytes w e = rw e refl

-- a Welcome of the suite
module _ (number : ℕ) (bytes : List ℕ) (view : WelcomeView) (shown : IsShownIn bytes view) (same : view.cipher_suite ≡ number) where
  test_passes : (shown.value.cipher_suite == number) ≡ true
  test_passes = eq-eqb shown.value.cipher_suite number (sym shown.shows.cipher_suite ∙ same)

  pub outer_suited : welcome_outer_checks number bytes ≡ Ok passed
  outer_suited = outer_suits number bytes shown.value shown.is_read ∙ rw test_passes refl

  pub suited : read_welcome_of_suite number bytes ≡ Ok shown.value
  suited = suited_is number bytes shown.value shown.is_read ∙ rw test_passes refl

  pub never_refused : (n : ℕ) → welcome_outer_checks number bytes ≡ Err n → ⊥
  never_refused n h = let ok = outer_suited in cc (ok, h)

-- one of another suite
module _ (number : ℕ) (bytes : List ℕ) (view : WelcomeView) (shown : IsShownIn bytes view) (other : (view.cipher_suite == number) ≡ false) where
  test_fails : (shown.value.cipher_suite == number) ≡ false
  test_fails = ap (λ k. k == number) (sym shown.shows.cipher_suite) ∙ other

  pub outer_other : welcome_outer_checks number bytes ≡ Err 71
  outer_other = outer_suits number bytes shown.value shown.is_read ∙ rw test_fails refl

  pub suited_other : read_welcome_of_suite number bytes ≡ Err 71
  suited_other = suited_is number bytes shown.value shown.is_read ∙ rw test_fails refl

-- ---- what a Welcome opens

pub welcome_short : (w : Welcome) → welcome.Fits w → length w.encrypted_group_info < 2 ^ 30
unfolding welcome
welcome_short w fits = fits.1.1

if_suited : (test : Bool) (w : Welcome) (f : Welcome → Result Opened ℕ) → (require 71 test >> f w) ≡ ((require 71 test >> Ok w) >>= f)
if_suited true w f = refl
if_suited false w f = refl

of_suit : (o : Result Welcome ℕ) (number : ℕ) (f : Welcome → Result Opened ℕ) → (o >>= λ w. require 71 (w.cipher_suite == number) >> f w) ≡ ((o >>= λ w. require 71 (w.cipher_suite == number) >> Ok w) >>= f)
of_suit (Ok w) number f = if_suited (w.cipher_suite == number) w f
of_suit (Err n) number f = refl

then_opened : (r : Result MlsMessage ℕ) (number : ℕ) (f : Welcome → Result Opened ℕ) → (r >>= λ outer. require_some 70 (welcome_in outer) >>= λ w. require 71 (w.cipher_suite == number) >> f w) ≡ (((r >>= λ outer. require_some 70 (welcome_in outer)) >>= λ w. require 71 (w.cipher_suite == number) >> Ok w) >>= f)
then_opened (Ok m) number f = of_suit (require_some 70 (welcome_in m)) number f
then_opened (Err n) number f = refl

pub opened_read : (c : Crypto) (k : Candidate) (bytes : List ℕ) → opened_welcome c k bytes ≡ (read_welcome_of_suite c.number bytes >>= open_for_candidate c k)
unfolding opened_welcome read_welcome_of_suite read_welcome open_for_candidate open_group_info
opened_read c k bytes = then_opened (decode_message bytes) c.number (open_for_candidate c k)

-- what code has is bytes
pub bytes_are : (bytes : List ℕ) → IsBytes bytes → are_bytes bytes ≡ true
unfolding are_bytes
bytes_are [] is = refl
bytes_are (b ∷ bs) is = ap (λ (t : Bool). t && list_all (λ (x : ℕ). nat_lt x 256) bs) (lt-ltb b 256 (is 0)) ∙ bytes_are bs (λ i. is (suc i))
