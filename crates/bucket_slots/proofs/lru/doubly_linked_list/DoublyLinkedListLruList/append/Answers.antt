use Rattle.bucket_slots.proofs.Words.{true≢false}
use Rattle.bucket_slots.proofs.Recency.Calls.{appends_behind, appends_first}
use Rattle.bucket_slots.proofs.Recency.Linked.{HoldsSlots-Links}
use Rattle.bucket_slots.proofs.lru.doubly_linked_list.DoublyLinkedListLruList.append.Goals as goal

pub link-requires-clause-slots : goal.link-requires-clause-slots
link-requires-clause-slots c = HoldsSlots-Links c.args.self.now.pairs _ c.requires.own_tail.links

pub returns-then-tail-eq0 : goal.returns-then-tail-eq0
returns-then-tail-eq0 c =
    let step = appends_first c.args.self.now.pairs c.args.tail c.args.entry
    c.requires.own_tail c.if-tail-eq0.true c.requires.own_slot in
    rw c.from.ensures (record {
      answer = λ keeps. step.0;
      order = λ keeps. step.1.stored;
      tail = step.1.own_tail;
      not_kept = λ keeps_none. absurd (true≢false keeps_none);
    })

pub returns : goal.returns
returns c =
    let step = appends_behind c.args.self.now.pairs c.link.new.self.pairs c.args.tail c.args.entry
    c.requires.own_tail c.if-tail-eq0.false c.requires.not_listed c.link.ensures in
    record {
      answer = λ keeps. step.0;
      order = λ keeps. step.1.stored;
      tail = step.1.own_tail;
      not_kept = λ keeps_none. absurd (true≢false keeps_none);
    }
