-- `stream::memory::Memory::list_kept` meets its contract. Assumes nothing.
use Rattle.stream.proofs.Listed.{is_counted, listed_some}
use Rattle.stream.proofs.memory.Memory.list_kept.Goals as goal

pub unwrap-requires : goal.unwrap-requires
unwrap-requires c = is_counted _ _ _ _ _ _ _ c.in-Some.is c.args.self.now.ready c.requires c.list_standing.ensures.result_value

pub returns : goal.returns
returns c =
    let v = c.list_standing in
    listed_some _ _ _ _ _ _ _ c.in-Some.is c.args.self.now.ready c.requires v.ensures.result_value _ _ c.unwrap.ensures v.ensures.room_after v.auto.room
