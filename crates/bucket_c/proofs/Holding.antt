-- The machine value of a `Held`, and what it owns.
--     E                     a box at the table
--     word, word_typed      the machine value
--     held_out              what holds a table is [its box; the allocator]
--     some_in, none_in      it is made of them, or of the allocator alone
use Rattle.std.proofs.Common.{◌≡◌, ℕ, true, List, [], ◌∷◌, ◌++◌, Option, Some, None, is_some, refl, ap, ◌∙◌}
use lib.Dec.{T, lit<}
use seplogic.Ra.Ura.{Ura}
use mir.Syntax.{impl, tnil, dnil}
use mir.Raw.{raw as bare}
use mir.Val.{Val, vptr, vstruct, vcons, vnil, of_list, has_ty, WT}
use base.Logic.{never, fst∗}
use types.Logic.{Logic, sem}
use types.Kit.{Item, Goal, Seq, Step, step, ‵, ◌$◌, move, drop, fsplit, fjoin, fpick, fpack, feq_i, feq_l}
use denote.RattleType.{RattleType, Valss}
use denote.Memory.{lone}
use denote.RawPtr.{Ptr, block_ptr, null_ptr, ptr_val, in_a_block}
use denote.Steps.{nothing}
use denote.Param.{layout}
use denote.Struct.Struct.{within}
use denote.Struct.Owning.{shape, fields, to}
use Rattle.std.proofs.alloc.Calls.{handle_tells, Fits}
use Rattle.std.proofs.ResultValues.{and_tt}
use Rattle.std.proofs.BoxSteps.Form.{Bx}
use Rattle.std.specs.Box.Ownership.{box_owns}
use Rattle.std.specs.contracts.alloc.Global as heap
use Rattle.std.proofs.alloc.Global.TheLaws as heap_laws
use Rattle.std.specs.contracts.impls.GlobalAllocator.TheImpl.{ghosts}
use Rattle.bucket_c.specs.Owning.{owned}
use Rattle.bucket_c.specs.contracts.tables.Table as table
use Rattle.bucket_c.proofs.tables.Table.TheLaws as table_laws
use Rattle.bucket_c.specs.contracts.held.Held as held

abbrev pub E : Bx
E = record {
  row = table.the_row;
  laws = table_laws.the_row_laws;
  al = record { row = heap.the_row; laws = heap_laws.the_row_laws; g = ghosts; d = impl [] tnil dnil; drops = impl [] tnil dnil };
}

abbrev pub R : RattleType
R = table.the_row

abbrev pub Z : RattleType
Z = heap.the_row

abbrev pub Holder : RattleType
Holder = held.the_row

abbrev pub word : Val → Val → Val
word p h = vstruct (vcons p (vcons h vnil))

module _ {M : Type 1} {𝓤 : Ura M} {𝓛 : Logic 𝓤} {K : Type 0} {Γ : List (Item 𝓤)} {G : Goal 𝓤 𝓛.H} where
  box_of : K → (a : Z.Denot) (p : Ptr) (w : Option R.Denot) → is_some w ≡ true
      → ((x : R.Denot) → w ≡ Some x → Seq K 𝓛 (‵ (box_owns (ghosts.dealloc_token a) R p x) ∷ Γ) G)
      → Seq K 𝓛 (‵ (owned a p w) ∷ Γ) G
  box_of t a p None some k = absurd (cc)
  box_of t a p (Some x) some k = k x refl

module _ {M : Type 1} {𝓤 : Ura M} {𝓛 : Logic 𝓤} {K : Type 0} {Γ : List (Item 𝓤)} {G : Goal 𝓤 𝓛.H} where
  pub held_out : K → (d : Holder.Denot) → is_some d.table ≡ true → (vs : List Val)
      → ((b o : ℕ) (h : Val) (x : R.Denot) → d.table ≡ Some x → d.at ≡ block_ptr b o → vs ≡ word (vptr b o) h ∷ [] → Fits E.al h
      → Seq K 𝓛 (‵ (box_owns (ghosts.dealloc_token d.alloc) R (block_ptr b o) x) ∷ ‵ (Z.own_val d.alloc (h ∷ [])) ∷ Γ) G)
      → Seq K 𝓛 (‵ (Holder.own_val d vs) ∷ Γ) G
  held_out t d some vs k =
      fsplit t $ fpick t (λ vss. fsplit t $ feq_l t (λ ev. fsplit t $ feq_l t (λ ep. fsplit t $
      handle_tells E.al t d.alloc vss.1.0 (λ h ea fits. move t (1 ∷ []) $ drop t $ move t (1 ∷ []) $
      box_of t d.alloc d.at d.table some (λ x ex.
      in_a_block t d.at (λ p. box_owns (ghosts.dealloc_token d.alloc) R p x)
      (fst∗ 𝓤 (never 𝓤) (sem 𝓛 (ghosts.dealloc_token d.alloc (bare (lone R.mir)) null_ptr))) (λ b o e. k b o h x ex e
      (ev ∙ (λ j. vstruct (of_list ((ep ∙ ap (λ (p : Ptr). ptr_val p ∷ []) e) j ++ (ea j ++ []))) ∷ [])) fits))))))

  pub some_in : K → (b o : ℕ) (h : Val) (a : Z.Denot) (x : R.Denot)
      → Step K 𝓛 (‵ (Holder.own_val (record { at = block_ptr b o; alloc = a; table = Some x }) (word (vptr b o) h ∷ [])) ∷ Γ) G
      (‵ (box_owns (ghosts.dealloc_token a) R (block_ptr b o) x) ∷ ‵ (Z.own_val a (h ∷ [])) ∷ Γ) G
  some_in t b o h a x = step (λ s. let v : Val = word (vptr b o) h in
      nothing t $ move t (2 ∷ 0 ∷ []) $ fjoin t $
      feq_i t (List Val) (vptr b o ∷ []) (vptr b o ∷ []) refl $ fjoin t $
      feq_i t (List Val) (v ∷ []) (v ∷ []) refl $ fjoin t $
      fpack t (Valss (fields held.the_type))
      (within (shape held.the_type) (to held.the_type (record { at = block_ptr b o; alloc = a; table = Some x })) (v ∷ []))
      (vptr b o ∷ [], (h ∷ [], tt)) $ fjoin t $ s)

  pub none_in : K → (h : Val) (a : Z.Denot)
      → Step K 𝓛 (‵ (Holder.own_val (record { at = null_ptr; alloc = a; table = None }) (word (ptr_val null_ptr) h ∷ [])) ∷ Γ) G
      (‵ (Z.own_val a (h ∷ [])) ∷ Γ) G
  none_in t h a = step (λ s. let v : Val = word (ptr_val null_ptr) h in
      nothing t $ nothing t $ move t (2 ∷ 0 ∷ []) $ fjoin t $
      feq_i t (List Val) (ptr_val null_ptr ∷ []) (ptr_val null_ptr ∷ []) refl $ fjoin t $
      feq_i t (List Val) (v ∷ []) (v ∷ []) refl $ fjoin t $
      fpack t (Valss (fields held.the_type))
      (within (shape held.the_type) (to held.the_type (record { at = null_ptr; alloc = a; table = None })) (v ∷ []))
      (ptr_val null_ptr ∷ [], (h ∷ [], tt)) $ fjoin t $ s)

pub word_typed : (p : Ptr) (h : Val) → Fits E.al h → T (has_ty (layout Holder) (word (ptr_val p) h)) × WT (word (ptr_val p) h)
word_typed (block_ptr b o) h fits = (and_tt (has_ty (layout Z) h) fits.0, (tt, (fits.1, tt)))
word_typed null_ptr h fits = (and_tt (has_ty (layout Z) h) fits.0, (record { fits = lit< tt }, (fits.1, tt)))
