-- The parts that code makes an exchange of.
use Rattle.mls_exchange.specs.declared.exchange.Parts.{Parts}
use Rattle.mls_exchange.specs.State.{State}

-- the state that they are
abbrev pub state_of : Parts → State
state_of p = record {
  group_id = p.group_id;
  epoch = p.epoch;
  context = p.context.items;
  sender_data_secret = p.sender_data_secret;
  keys = p.keys;
  nodes = p.nodes.items;
  leaf = p.leaf;
  signing = p.signing;
}
