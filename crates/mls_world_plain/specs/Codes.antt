-- Codes of what a world stores, by which proofs tell its values apart.
use Rattle.std.specs.Prelude.{◌≡◌, ◌⊎◌, ℕ, Bool, List, Option}
use Rattle.std.proofs.Common.{refl}
use Rattle.std.specs.Coded.{Coded, code_by, coded×, coded⊎, coded_ℕ, coded_bool, coded_list, coded_option}
use mathlib.Core.Logic.{inl, inr}
use Rattle.mls_leaf.specs.declared.key_package.KeyPackage.{KeyPackage}
use Rattle.mls_public_group.specs.Codes.{coded_bytes, coded_package}
use Rattle.mls_member.specs.Codes.{coded_member}
use Rattle.mls_model.specs.declared.origin.Origin.{Origin}
use Rattle.mls_model.specs.declared.origin.Origin.TheVariants as from
use Rattle.mls_model.specs.Candidate.{Candidate}
use Rattle.mls_model.specs.Member.{Member}
use Rattle.mls_model.specs.Journal.{Entry, Journal, CommitMade}
use Rattle.mls_model.specs.World.{Entrant, Seat, World}
use Rattle.mls_world_plain.specs.StoredWorld.{Seated}

-- ---- journals

abbrev origin_cases : Origin → ℕ ⊎ List ℕ
origin_cases (from.Creation k) = inl k
origin_cases (from.GroupInfo g) = inr g

abbrev origin_of : ℕ ⊎ List ℕ → Origin
origin_of (inl k) = from.Creation k
origin_of (inr g) = from.GroupInfo g

pub origin_again : (o : Origin) → origin_of (origin_cases o) ≡ o
origin_again (from.Creation k) = refl
origin_again (from.GroupInfo g) = refl

abbrev coded_origin : Coded Origin
coded_origin = code_by (ℕ ⊎ List ℕ) (coded⊎ coded_ℕ coded_bytes) origin_cases origin_of origin_again

abbrev coded_entry : Coded Entry
coded_entry = code_by (List ℕ × List (List ℕ)) (coded× coded_bytes (coded_list coded_bytes)) (λ e. (e.commit, e.named_messages)) (λ p. record { commit = p.0; named_messages = p.1 }) (λ _. refl)

abbrev pub coded_journal : Coded Journal
coded_journal = code_by (Origin × List Entry) (coded× coded_origin (coded_list coded_entry)) (λ j. (j.origin, j.entries)) (λ p. record { origin = p.0; entries = p.1 }) (λ _. refl)

-- ---- candidates and members

abbrev coded_candidate : Coded Candidate
coded_candidate =
    code_by (KeyPackage × (List ℕ × (List ℕ × List ℕ))) (coded× coded_package (coded× coded_bytes (coded× coded_bytes coded_bytes)))
    (λ k. (k.offered, (k.init, (k.leaf, k.signing)))) (λ p. record { offered = p.0; init = p.1.0; leaf = p.1.1.0; signing = p.1.1.1 }) (λ _. refl)

abbrev pub coded_entrant : Coded Entrant
coded_entrant = code_by (Candidate × Bool) (coded× coded_candidate coded_bool) (λ e. (e.candidate, e.is_spent)) (λ p. record { candidate = p.0; is_spent = p.1 }) (λ _. refl)

abbrev pub coded_seated : Coded Seated
coded_seated = code_by (Member × ℕ) (coded× coded_member coded_ℕ) (λ s. (s.member, s.journal)) (λ p. record { member = p.0; journal = p.1 }) (λ _. refl)

-- ---- worlds

abbrev coded_seat : Coded Seat
coded_seat = code_by (Member × Journal) (coded× coded_member coded_journal) (λ s. (s.member, s.journal)) (λ p. record { member = p.0; journal = p.1 }) (λ _. refl)

abbrev coded_made : Coded CommitMade
coded_made =
    code_by (ℕ × (Journal × (Entry × (List ℕ × (List (List ℕ) × Option (ℕ × List ℕ))))))
    (coded× coded_ℕ (coded× coded_journal (coded× coded_entry (coded× coded_bytes (coded× (coded_list coded_bytes) (coded_option (coded× coded_ℕ coded_bytes)))))))
    (λ d. (d.maker, (d.journal, (d.entry, (d.epoch_secret, (d.adds, d.welcome))))))
    (λ p. record { maker = p.0; journal = p.1.0; entry = p.1.1.0; epoch_secret = p.1.1.1.0; adds = p.1.1.1.1.0; welcome = p.1.1.1.1.1 }) (λ _. refl)

abbrev pub coded_world : Coded World
coded_world =
    code_by (List Entrant × (List Seat × (List (List ℕ) × List CommitMade)))
    (coded× (coded_list coded_entrant) (coded× (coded_list coded_seat) (coded× (coded_list coded_bytes) (coded_list coded_made))))
    (λ w. (w.entrants, (w.seats, (w.messages, w.commits)))) (λ p. record { entrants = p.0; seats = p.1.0; messages = p.1.1.0; commits = p.1.1.1 }) (λ _. refl)
