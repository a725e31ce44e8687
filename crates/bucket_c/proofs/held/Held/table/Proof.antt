-- `table` lends what lies at the pointer, and the `Held` follows it.
use Rattle.std.proofs.Common.{ℕ, ◌≡◌, true, List, [], ◌∷◌, ◌++◌, Some, is_some, refl, sym, subst}
use seplogic.Ra.Ura.{Ura}
use mir.Raw.{raw as bare}
use mir.Syntax.{Body, named, place, copy, assign, rv_opd, seq, return}
use mir.Val.{Val, vptr}
use base.Fraction.{full_share}
use base.Logic.{SProp, ent, sep}
use base.Fml.{Fml, GName, Lft, Share, ftrue, fsep, flft, fobs, fbor}
use prog.Wp.{WpFn}
use types.Logic.{Logic, sem}
use types.SemTy.{Body as Borrowed}
use types.Kit.{Item, at_ret, ‵, raw, ◌⊛◌, ⋆, some, later, ◌$◌, ◌∵◌, !, qed, by, move, keep, use1, rewrite, join, split, split3, fsplit}
use types.Kit.{fsplit3, fjoin, fpack, feq_l, pick, await, group, suffices, frame, done}
use types.Part.{whole, sub, look_in}
use types.Run.{stop, fld, load, of_opd, addr, first, blocks, exec, returns, enter}
use types.ByLocal.{alloc_all, pass_all, free_all, look_at, get, through, sets, sets_last, env}
use contract.Monad.{fact}
use contract.Running.{tables}
use denote.Exit.{no}
use denote.Builtin.{RefMutOf}
use denote.Follow.{follows, lends_Part}
use denote.Memory.{cell_at, lone, mem, part_at, part_of}
use denote.RattleType.{owns}
use denote.RawPtr.{Ptr, block_ptr}
use denote.Ref.{MutRef}
use denote.Signature.{plain}
use denote.Steps.{nothing, heard, opens}
use denote.Triple.Walked.{says, Stays, stay_dropped, walk_of, ends_at, Goes-spent_ref}
use Rattle.std.proofs.raw_atomic.Walks.{proved_at}
use Rattle.std.specs.contracts.impls.GlobalAllocator.TheImpl.{ghosts}
use Rattle.bucket_c.specs.Lending.{with_table}
use Rattle.bucket_c.proofs.Holding.{R, Z, Holder, word, held_out, some_in}
use Rattle.bucket_c.specs.contracts.held.Held.table as F
use Rattle.bucket_c.specs.contracts.held.Held.table.Key.{name as #self}
use Rattle.bucket_c.proofs.held.Held.table.Statement.{statement}
use Rattle.bucket_c.proofs.held.Held.table.Code as code

abbrev stayed : Stays F.ended.signature.params F.ended.kept
stayed = (stay_dropped (RefMutOf (0 ∷ []) tt (plain (λ _. Holder)) (λ _. tt)) no, tt)

abbrev rest : Body
rest = seq (assign (place 0 []) (rv_opd (copy (place 2 [])))) return

module _ {M : Type 1} {𝓤 : Ura M} (𝓛 : Logic 𝓤) (rb ro b o : ℕ) (h : Val) (d : Holder.Denot) where
  -- all of the `Held` but its table
  abbrev Rest : Fml
  Rest = fsep (fsep (ghosts.dealloc_token d.alloc (bare (lone R.mir)) (block_ptr b o)) (Z.own_val d.alloc (h ∷ [])))
      (cell_at full_share Holder.mir (word (vptr b o) h ∷ []) rb ro)

  back : d.at ≡ block_ptr b o → (w : R.Denot)
      → ent 𝓤 (sep 𝓤 (sem 𝓛 ((mem R).own_at w b o)) (sem 𝓛 Rest)) (sem 𝓛 ((mem Holder).own_at (with_table d w) rb ro))
  unfolding part_of
  back e w =
      qed 𝓛 (‵ (part_at R full_share w b o) ∷ ‵ Rest ∷ []) ∵ move ! (1 ∷ []) $ fsplit ! $ fsplit ! $ move ! (3 ∷ []) $
      fjoin ! $ some_in ! b o h d.alloc w $
      rewrite ! 0
      (λ (p : Ptr). ‵ (Holder.own_val (record { at = p; alloc = d.alloc; table = Some w }) (word (vptr b o) h ∷ []))) (sym e) refl $
      move ! (1 ∷ 0 ∷ []) $ fjoin ! $
      fpack ! (List Val) (λ us. fsep (cell_at full_share Holder.mir us rb ro) (Holder.own_val (with_table d w) us))
      (word (vptr b o) h ∷ []) $ done !

pub table_spec : {M : Type 1} → statement M
table_spec 𝓤 𝓛 𝓜 𝓡 wired =
    let c = F.clauses 𝓛 𝓜.mem 𝓡.returns in let 𝓣 = tables 𝓤 𝓛.H 𝓜 𝓡 𝓡.env in
    proved_at 𝓛 F.ended stayed c 𝓜 𝓡 (Goes-spent_ref 𝓛 1 (0 ∷ []) tt (plain (λ _. Holder)), tt)
    #self code.function (code.unfolded 𝓤 𝓛.H 𝓜 𝓡 wired) (λ z are.
    let Post : Val → SProp 𝓤 = (walk_of 𝓛 F.ended stayed c).post z in
    let κ : Lft = z.0.0.0 in let q : Share = z.0.1.0 in
    let rb : ℕ = z.0.3.0.ref_ptr.0 in let ro : ℕ = z.0.3.0.ref_ptr.1 in
    let γ : GName = z.0.3.0.ghost_name in let d : Holder.Denot = z.0.3.0.now in
    qed 𝓛 (((‵ (flft κ q) ⊛ ‵ ftrue) ⊛ ‵ (owns (MutRef (named 0) κ Holder ∷ []) z.0.3 z.0.4))
    ∷ raw (fact 𝓤 (is_some d.table ≡ true)) ∷ []) ∵
    move ! (1 ∷ []) $ heard ! (is_some d.table ≡ true) (λ has. split ! $ split ! $ move ! (2 ∷ []) $
    fsplit ! $ fsplit3 ! $ feq_l ! (λ es. keep ! (0 ∷ 1 ∷ 3 ∷ []) $
    let Γ : List (Item 𝓤) = ‵ (fobs γ (Holder.coded.code d)) ∷ ‵ (fbor κ (Borrowed (mem Holder) rb ro γ)) ∷ ‵ (flft κ q) ∷ [] in
    by ! (subst (λ (us : List Val). ent 𝓤 (⋆ 𝓛 Γ) (WpFn 𝓤 𝓛.H 𝓣.C 𝓣.Λ code.function (us ++ []) Post)) (sym es)
    (qed 𝓛 Γ ∵ enter ! 𝓣.C 𝓣.Λ code.function (vptr rb ro ∷ []) _ $ alloc_all ! (λ ls. pass_all ! refl ((tt, tt), tt) $
    opens ! tt Holder {h = d} rb ro (λ vs. move ! (1 ∷ []) $ held_out ! d has vs (λ b o h x ex e ws fits.
    fsplit ! $ move ! (1 ∷ 2 ∷ []) $ fjoin ! $ move ! (1 ∷ []) $
    rewrite ! 2 (λ (us : List Val). ‵ (cell_at full_share Holder.mir us rb ro)) ws refl $
    first ! $ blocks ! $
    sets ! (of_opd ! (load ! (through ! refl (fld ! refl (stop !))) (look_in ! 2 (sub ! 0 refl (whole !))))) refl (tt, tt) $
    sets ! (of_opd ! (get ! refl)) refl (tt, tt) $ sets_last ! (addr ! (through ! refl (stop !))) refl (tt, tt) $
    exec ! 𝓣.C 𝓣.Λ (env code.function.locals ls) rest (at_ret (env code.function.locals ls) Post) $
    sets ! (of_opd ! (get ! refl)) refl (tt, tt) $
    move ! (1 ∷ 2 ∷ []) $ fjoin ! $ move ! (2 ∷ 3 ∷ 4 ∷ 1 ∷ 0 ∷ []) $ group ! 5 $
    use1 𝓛 (later (some (λ (γ' : GName).
    ‵ ((MutRef (named 0) κ R).own_val (record { ref_ptr = (b, o); ghost_name = γ'; now = x }) (vptr b o ∷ []))
    ⊛ ‵ (flft κ q) ⊛ ‵ (follows Holder R γ γ' (with_table d)))))
    (lends_Part 𝓛 Holder R (with_table d) (named 0) κ q rb ro b o γ (sem 𝓛 (Rest 𝓛 rb ro b o h d))
    (back 𝓛 rb ro b o h d e) (Holder.coded.code d) (Holder.coded.code d) x) $
    await ! tt $ pick ! (λ γ'. split3 ! $ returns ! (look_at ! 0 refl) $ free_all ! refl $ keep ! (0 ∷ 1 ∷ 2 ∷ []) $
    suffices ! _ (ends_at 𝓛 F.ended stayed c z (vptr b o) (record { ref_ptr = (b, o); ghost_name = γ'; now = x }) (tt, tt) (tt, tt)) $
    nothing ! $ nothing ! $ fjoin ! $ join ! $ nothing ! $ move ! (2 ∷ 0 ∷ []) $ join ! $ join ! $ frame ! $ says ! ex $ done !)))))))))
