-- Calls on a world as a recording has them, and how the code's values stand for them.
use Rattle.std.specs.Prelude.{ℕ, Bool, List, map, Option, option_map, string_bytes}
use Rattle.std.specs.Global.{Global, Vec}
use Rattle.std.specs.declared.string.String.{String}
use Rattle.mls_leaf.specs.declared.extension.Extension.{Extension}
use Rattle.mls_model.specs.declared.event.Source.{Source}
use Rattle.mls_model.specs.declared.event.Source.TheVariants as source
use Rattle.mls_model.specs.declared.event.WorldItem.{WorldItem}
use Rattle.mls_model.specs.declared.event.WorldItem.TheVariants as item
use Rattle.mls_model.specs.declared.event.Event.{Event}
use Rattle.mls_model.specs.declared.event.Event.TheVariants as event
use Rattle.mls_cli_recording.specs.declared.actions.Action as code
use Rattle.mls_cli_recording.specs.declared.actions.Action.TheVariants as action
use Rattle.mls_cli_recording.specs.declared.reading.Recorded.{Recorded}
use Rattle.mls_cli_recording.specs.declared.reading.RecordedRun.{RecordedRun}

-- where the bytes of a message come from
pub data MessageSource : Type 0 where
  -- these bytes
  given : List ℕ → MessageSource
  -- the message of this number
  message : ℕ → MessageSource

-- a proposal of a commit
pub data CommitItem : Type 0 where
  -- the proposal of a message, by its reference
  ref : MessageSource → CommitItem
  -- the KeyPackage of a message
  add : MessageSource → CommitItem
  -- the leaf that is removed
  remove : ℕ → CommitItem
  -- the types and the data of the extensions that the group is to carry
  extensions : List (ℕ × List ℕ) → CommitItem

pub data Call : Type 0 where
  -- an identity and a seed
  candidate : List ℕ → List ℕ → Call
  -- a candidate, a group and a seed
  create : ℕ → List ℕ → List ℕ → Call
  -- a member and the source of a KeyPackage
  propose_add : ℕ → MessageSource → Call
  -- a member and a seed
  propose_update : ℕ → List ℕ → Call
  -- a member and a leaf
  propose_remove : ℕ → ℕ → Call
  -- a member, and the types and the data of extensions
  propose_extensions : ℕ → List (ℕ × List ℕ) → Call
  -- a member, what it commits, whether a path is forced, and a seed
  commit : ℕ → List CommitItem → Bool → List ℕ → Call
  -- a member
  drop_pending : ℕ → Call
  -- a member and the source of a message
  deliver : ℕ → MessageSource → Call
  -- a candidate and the source of a Welcome
  join : ℕ → MessageSource → Call

-- what a recording asks for
pub data Action : Type 0 where
  -- one call
  call : Call → Action
  -- the source of a message, delivered to each active member
  deliver_all : MessageSource → Action

-- an action, and the text of its reply, where one is recorded
pub record RecordedAction : Type 0 where
  pub action : Action
  pub expect : Option (List ℕ)

-- all actions, and the lines of members in the end, where they are recorded
pub record Recording : Type 0 where
  pub actions : List RecordedAction
  pub final_lines : Option (List (List ℕ))

-- ---- of the code's values

abbrev pub source_view : Source → MessageSource
source_view (source.Given bytes) = given bytes.items
source_view (source.Message n) = message n

abbrev pub extension_view : Extension → ℕ × List ℕ
extension_view e = (e.kind, e.content)

abbrev pub item_view : WorldItem → CommitItem
item_view (item.RefOf s) = ref (source_view s)
item_view (item.Add s) = add (source_view s)
item_view (item.Remove leaf) = remove leaf
item_view (item.Extensions list) = extensions (map extension_view list.items)

abbrev pub call_view : Event → Call
call_view (event.Candidate identity seed) = candidate identity.items seed
call_view (event.Create n group seed) = create n group.items seed
call_view (event.ProposeAdd k s) = propose_add k (source_view s)
call_view (event.ProposeUpdate k seed) = propose_update k seed
call_view (event.ProposeRemove k leaf) = propose_remove k leaf
call_view (event.ProposeExtensions k list) = propose_extensions k (map extension_view list.items)
call_view (event.Commit k items path seed) = commit k (map item_view items.items) path seed
call_view (event.DropPending k) = drop_pending k
call_view (event.Deliver k s) = deliver k (source_view s)
call_view (event.Join n s) = join n (source_view s)

abbrev pub action_view : code.Action → Action
action_view (action.Event e) = call (call_view e)
action_view (action.DeliverAll s) = deliver_all (source_view s)

abbrev pub recorded_view : Recorded → RecordedAction
recorded_view r =
    record { action = action_view r.action; expect = option_map string_bytes r.expect }

-- the recorded actions of a list that was read, where all of its texts are hex
abbrev pub recorded_views : Option (Vec Recorded) → Option (List RecordedAction)
recorded_views found = option_map (λ (v : Vec Recorded). map recorded_view v.items) found

abbrev pub texts_view : Vec (String Global) → List (List ℕ)
texts_view texts = map string_bytes texts.items

abbrev pub recording_view : RecordedRun → Recording
recording_view r = record {
  actions = map recorded_view r.actions.items;
  final_lines = option_map texts_view r.final_lines;
}

-- the items of a list that was read, where all of its texts are hex
abbrev pub item_views : Option (Vec WorldItem) → Option (List CommitItem)
item_views found = option_map (λ (v : Vec WorldItem). map item_view v.items) found

-- the extensions of a list that was read, where all of its texts are hex
abbrev pub extension_views : Option (Vec Extension) → Option (List (ℕ × List ℕ))
extension_views found = option_map (λ (v : Vec Extension). map extension_view v.items) found
