-- Members of a world at one homemade journal, and what they say to each other (RFC 9420, 6.3 and 9).
use Rattle.std.specs.Prelude.{◌≡◌, ◌≢◌, ℕ}
use Rattle.mls_suite.specs.Crypto.{Crypto}
use Rattle.mls_model.specs.Headline.{IsActive}
use Rattle.mls_model.specs.Journal.{IsHomemade}
use Rattle.mls_model.specs.Member.{Member}
use Rattle.mls_model.specs.Sharing.{ShareEpoch}
use Rattle.mls_model.specs.World.{World, Seat}
use Rattle.mls_theorems.specs.Reachable.{IsReachable}
use Rattle.mls_conversation.specs.Laws.{ConversationsShare}
use Rattle.mls_conversation.specs.Order.{ArriveOnce}

-- two members of a world, neither of them removed, have one homemade journal
pub record AreTogether (w : World) (i j : ℕ) (s t : Seat) : Type 0 where
  pub apart : i ≢ j
  pub first : IsActive w i s
  pub second : IsActive w j t
  pub journal : s.journal ≡ t.journal
  pub homemade : IsHomemade w.commits s.journal

-- two such members share an epoch, whatever events led to the world
abbrev pub TogetherShare : Crypto → Type 0
TogetherShare c = (w : World) → IsReachable c w → (i j : ℕ) (s t : Seat) → AreTogether w i j s t
    → ShareEpoch c s.member t.member

-- two members converse: they have conversations of one epoch, and what the first seals arrives at the second, once, in
-- whatever order
pub record Converse (c : Crypto) (m n : Member) : Type 0 where
  pub shared : ConversationsShare c m n
  pub arrive : ArriveOnce c m n shared

-- in a world at one homemade journal every message arrives
abbrev pub AllConverse : Crypto → World → Type 0
AllConverse c w = (i j : ℕ) (s t : Seat) → AreTogether w i j s t → Converse c s.member t.member

-- so it is whatever events led to the world
abbrev pub TogetherConverse : Crypto → Type 0
TogetherConverse c = (w : World) → IsReachable c w → AllConverse c w
