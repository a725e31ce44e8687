use Rattle.bucket_table.proofs.Words.{IsPermutation-refl, Ok, inl, inr, pairs_of, refl, rules}
use Rattle.bucket_table.specs.Map.MapState.{state_of}
use Rattle.bucket_table.proofs.Map.AfterSearch.{absent_kept, absent_turned, never_present, own_kept, put_first, refused_vacant}
use Rattle.bucket_table.proofs.Scripts.CallSteps.{then_kept}
use Rattle.bucket_table.proofs.Map.Putting.{then_put}
use Rattle.bucket_table.proofs.hash_table.HashTable.put_vacant.Goals as goal

pub put_absent-requires : goal.put_absent-requires
put_absent-requires g c =
    let e = c.find_ready-side.ensures in
    let map = then_kept (state_of g.row.TYPE c.args.self.now) (state_of g.row.TYPE c.split_home.new.self)
    (state_of g.row.TYPE c.find_ready-side.new.self) c.split_home.ensures.map e.map in
    let own = own_kept g.H.KeyHash.hash_of c.args.key c.args.hash g.row.TYPE c.args.self.now c.find_ready-side.new.self map
    c.requires.own_hash in
    let absent = absent_kept (λ own. g.K.PartialEq.eq own c.args.key) (state_of g.row.TYPE c.args.self.now)
    (state_of g.row.TYPE c.find_ready-side.new.self) map
    (absent_turned g.met.K.Eq.laws c.args.key (pairs_of c.args.self.now.arrays) c.requires.absent) in
    (search rules, (c.requires.cache, (e.locked, (own, (e.home, absent)))))

pub returns-in-Ready-clause-map : goal.returns-in-Ready-clause-map
returns-in-Ready-clause-map g c =
    let map = then_kept (state_of g.row.TYPE c.args.self.now) (state_of g.row.TYPE c.split_home.new.self)
    (state_of g.row.TYPE c.find_ready-side.new.self) c.split_home.ensures.map c.find_ready-side.ensures.map in
    then_put g.K.PartialEq.eq c.args.key c.args.value (state_of g.row.TYPE c.args.self.now)
    (state_of g.row.TYPE c.find_ready-side.new.self) _ (Ok c.put_absent.result) map c.put_absent.ensures.map

pub returns-in-Ready-clause-arrays : goal.returns-in-Ready-clause-arrays
returns-in-Ready-clause-arrays g c = λ first prepared vacant. elim c.split_home.ensures.split [
  | inl same ↦ inl (record {
    answer = Ok (c.find_ready-side.result.0, c.find_ready-side.result.1);
    between = c.find_ready-side.new.self;
    found = c.find_ready-side.ensures.found first (rw same prepared);
    done = (c.put_absent.ensures.goes, c.put_absent.ensures.put);
  })
  | inr (doubled, splits, kept, ready) ↦ inr (record {
    ready = c.args.self.now;
    doubled = doubled;
    side = c.find_ready-side.result.0;
    index = c.find_ready-side.result.1;
    between = c.find_ready-side.new.self;
    prepared = prepared;
    splits = splits;
    same = kept;
    found = c.find_ready-side.ensures.found doubled ready;
    done = (c.put_absent.ensures.goes, c.put_absent.ensures.put);
  })
]

pub returns-in-NoArray-clause-absent : goal.returns-in-NoArray-clause-absent
returns-in-NoArray-clause-absent g c = λ k v is.
    never_present g.K.PartialEq.eq c.args.key c.args.value (state_of g.row.TYPE c.args.self.now) _ c.put_hashed.result
    (absent_turned g.met.K.Eq.laws c.args.key (pairs_of c.args.self.now.arrays) c.requires.absent) k v is c.put_hashed.ensures.map

pub returns-in-NoMemory-clause-map : goal.returns-in-NoMemory-clause-map
returns-in-NoMemory-clause-map g c = (
  (refl, refl, absent_turned g.met.K.Eq.laws c.args.key (pairs_of c.args.self.now.arrays) c.requires.absent),
  record { pairs = IsPermutation-refl (pairs_of c.args.self.now.arrays); others = refl },
)

pub returns-in-NoArray-clause-arrays : goal.returns-in-NoArray-clause-arrays
returns-in-NoArray-clause-arrays g c = λ first prepared vacant. inl
    (put_first g.row.TYPE c.args.hash first c.args.self.now (prepared.alone (rw c.in-NoArray.is at vacant).1) _ c.put_hashed.ensures.arrays)

pub returns-in-NoMemory-clause-arrays : goal.returns-in-NoMemory-clause-arrays
returns-in-NoMemory-clause-arrays g c = λ first prepared vacant. inl
    (refused_vacant g.row.TYPE c.args.hash g.L.LruList.KEEPS c.args.key c.args.value first c.args.self.now prepared
    (rw c.in-NoMemory.is at vacant))
