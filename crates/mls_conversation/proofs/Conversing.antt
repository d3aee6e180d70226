-- Members at one homemade journal share an epoch, and so their messages arrive.
use Rattle.std.proofs.Common.{ℕ, sym, subst}
use Rattle.mls_suite.specs.Crypto.{Crypto, Lawful}
use Rattle.mls_model.specs.Agreement.{Agree}
use Rattle.mls_model.specs.Headline.{Headline}
use Rattle.mls_model.specs.Invariant.{IsGoodWorld, IsSeated}
use Rattle.mls_model.specs.Sharing.{ShareEpoch}
use Rattle.mls_model.specs.World.{World, Seat, empty_world}
use Rattle.mls_theorems.specs.Reachable.{IsReachable}
use Rattle.mls_theorems.proofs.Framing.{one_public}
use Rattle.mls_theorems.proofs.Leaves.{own_leaves}
use Rattle.mls_theorems.proofs.Reachable.{headline_of_reachable}
use Rattle.mls_theorems.proofs.Runs.{empty_good, runs_keep_good}
use Rattle.mls_conversation.specs.Laws.{ConversationsShare}
use Rattle.mls_conversation.proofs.Order.{arrive_once}
use Rattle.mls_conversation.proofs.Sharing.{members_share}
use Rattle.mls_conversation.specs.Together.{AreTogether, Converse}

-- a world that events led to is good
reachable_good : (c : Crypto) → Lawful c → (w : World) → IsReachable c w → IsGoodWorld c w
reachable_good c laws w reach =
    subst (IsGoodWorld c) (sym reach.is) (runs_keep_good c laws empty_world (empty_good c) reach.events reach.range)

pub together_share : (c : Crypto) → Lawful c → (w : World) → IsReachable c w → (i j : ℕ) (s t : Seat) → AreTogether w i j s t → ShareEpoch c s.member t.member
together_share c laws w reach i j s t x =
    let good = reachable_good c laws w reach in
    let h : Headline c w = headline_of_reachable c laws w reach in
    let a : IsSeated c good.0 w s = good.1.members i s x.first in
    let b : IsSeated c good.0 w t = good.1.members j t x.second in
    let agree : Agree s.member t.member = h.public i j s t x.first x.second x.journal in
    record {
      good = a.good;
      other_good = b.good;
      active = x.first.active;
      other_active = x.second.active;
      apart = own_leaves c s.member t.member a.good b.good (one_public s.member t.member agree) (good.1.apart i j s t x.apart x.first.is x.second.is);
      agree = agree;
      secret = h.secret i j s t x.first x.second x.journal x.homemade;
    }

pub together_converse : (c : Crypto) → Lawful c → (w : World) → IsReachable c w → (i j : ℕ) (s t : Seat) → AreTogether w i j s t → Converse c s.member t.member
together_converse c laws w reach i j s t x =
    let shared : ConversationsShare c s.member t.member = members_share c s.member t.member (together_share c laws w reach i j s t x) in
    record { shared = shared; arrive = arrive_once c laws s.member t.member shared }
