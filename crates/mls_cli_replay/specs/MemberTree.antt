-- What `mls replay --tree K` prints: the ratchet tree of member K when all actions are done, in hex
-- digits, as `mls check` takes it.
use Rattle.std.specs.Prelude.{◌≡◌, ◌⊎◌, ℕ, true, false, List, [], ◌∷◌, slice_get, Option, Some, None, option_map, Result, IfOk}
use Rattle.mls_suite.specs.Crypto.{Crypto}
use Rattle.mls_types.specs.GroupInfo.{ratchet_tree}
use Rattle.mls_tree_model.specs.Arrays.{to_nodes}
use Rattle.mls_model.specs.Member.{Member}
use Rattle.mls_model.specs.World.{Seat, World, empty_world}
use Rattle.mls_cli_text.specs.Page.{Page, Printout, good, page_of, printout, refused}
use Rattle.mls_cli_text.specs.declared.page.Page as code
use Rattle.mls_cli_text.specs.declared.fault.Fault.{Fault}
use Rattle.mls_cli_recording.specs.declared.reading.Recorded.{Recorded}
use Rattle.mls_cli_replay.specs.Actions.{run_all}
use Rattle.mls_cli_replay.specs.Message.{digits_text}
use Rattle.mls_cli_replay.specs.Replay.{PrintsOne, actions_of}
use Rattle.mls_cli_replay.specs.declared.member_tree.TreeDigits.{TreeDigits}

-- the spelling of a member's tree (RFC 9420, 12.4.3.3), or `TooLong` (6) where it has none
abbrev pub IsSpelling : Member → Page (List ℕ) → Type 0
IsSpelling m page =
    (ratchet_tree.Fits (to_nodes m.public.tree)
    × (page ≡ good (ratchet_tree.spell (to_nodes m.public.tree) ∷ [])))
    ⊎ ((ratchet_tree.Fits (to_nodes m.public.tree) → ⊥) × (page ≡ refused 6))

-- `Gone` (40), or the tree's spelling
abbrev pub IsTreeOf : Member → Page (List ℕ) → Type 0
IsTreeOf m page =
    ((m.gone ≡ true) × (page ≡ refused 40)) ⊎ ((m.gone ≡ false) × IsSpelling m page)

-- the tree of the member that was looked for, or `NoSuchMember` (90)
abbrev pub IsTreeOn : Option Member → Page (List ℕ) → Type 0
IsTreeOn None page = page ≡ refused 90
IsTreeOn (Some m) page = IsTreeOf m page

abbrev pub member_at : World → ℕ → Option Member
member_at w k = option_map (λ (s : Seat). s.member) (slice_get w.seats k)

-- the tree of member k of the world that the actions leave from the empty one on
abbrev pub IsTree : Crypto → ℕ → List Recorded → Printout → Type 0
IsTree c k rs p =
    (page : Page (List ℕ))
    × IsTreeOn (member_at (run_all c empty_world (actions_of rs)) k) page
    × (p ≡ printout digits_text page)

-- ---- of the code's pages

abbrev pub bytes_of : TreeDigits → List ℕ
bytes_of d = d.bytes.items

-- Where there is memory for it, such a page is made.
abbrev pub MakesTree : {X : Type 0} → (Page (List ℕ) → Type 0) → Result (code.Page TreeDigits) X →
    Type 0
MakesTree Is result = IfOk result (λ (p : code.Page TreeDigits). Is (page_of bytes_of p))

-- the tree of member k of the world that these actions leave is printed
abbrev pub PrintsTree : {O : Type 0} → (O → Option (List ℕ)) → O → O → Crypto → ℕ →
    List Recorded → Result ℕ Fault → Type 0
PrintsTree contents old new c k rs result =
    PrintsOne (IsTree c k rs) (contents old) (contents new) result
