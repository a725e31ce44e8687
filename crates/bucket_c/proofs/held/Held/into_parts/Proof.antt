-- `into_parts` moves the pointer and the allocator, with what they own.
use Rattle.std.proofs.Common.{◌≡◌, List, [], ◌∷◌, ◌++◌, true, is_some, refl, sym, subst}
use mir.Val.{Val, vptr}
use base.Logic.{SProp, ent, id⊢}
use base.Fml.{ftrue, fsep}
use prog.Wp.{WpFn}
use types.Kit.{Item, ‵, raw, ◌⊛◌, ◌$◌, ◌∵◌, !, qed, by, move, drop, use1, join, split, fsplit, fjoin, suffices, done}
use types.Part.{whole, sub, agg}
use types.Run.{stop, fld, no_more, and_then, of_opd, returns, enter}
use types.ByLocal.{alloc_all, pass_all, free_all, look_at, get, get_in, sets}
use contract.Monad.{fact}
use contract.Running.{tables}
use denote.Exit.{yes}
use denote.RattleType.{RattleType}
use denote.Signature.{Slot, plain}
use denote.RawPtr.{block_ptr}
use denote.Steps.{nothing, heard}
use denote.Triple.Walked.{says, Stays, stay_dropped, walk_of, ends_at, Goes-dropped}
use Rattle.std.proofs.raw_atomic.Walks.{proved_at}
use Rattle.std.specs.contracts.impls.GlobalAllocator.TheImpl.{ghosts}
use Rattle.std.proofs.BoxSteps.Form.{D, word as box_word, box_typed}
use Rattle.std.proofs.BoxSteps.Steps.{box_in}
use Rattle.bucket_c.proofs.Holding.{E, R, Z, Holder, word, held_out, word_typed}
use Rattle.bucket_c.specs.contracts.parts.Parts as parts
use Rattle.bucket_c.specs.contracts.held.Held.into_parts as F
use Rattle.bucket_c.specs.contracts.held.Held.into_parts.Key.{name as #self}
use Rattle.bucket_c.proofs.held.Held.into_parts.Statement.{statement}
use Rattle.bucket_c.proofs.held.Held.into_parts.Code as code

abbrev From : Slot 0
From = plain (λ _. Holder)

abbrev To : RattleType
To = parts.the_row R Z ghosts

abbrev stayed : Stays F.ended.signature.params F.ended.kept
stayed = (stay_dropped From yes, tt)

pub into_parts_spec : {M : Type 1} → statement M
into_parts_spec 𝓤 𝓛 𝓜 𝓡 wired =
    let c = F.clauses 𝓛 𝓜.mem 𝓡.returns in let 𝓣 = tables 𝓤 𝓛.H 𝓜 𝓡 𝓡.env in
    proved_at 𝓛 F.ended stayed c 𝓜 𝓡 (Goes-dropped 𝓛 0 From yes (λ κs x f. refl), tt)
    #self code.function (code.unfolded 𝓤 𝓛.H 𝓜 𝓡 wired) (λ z are.
    let Post : Val → SProp 𝓤 = (walk_of 𝓛 F.ended stayed c).post z in let d = z.0.3.0 in
    qed 𝓛 ((‵ ftrue ⊛ ‵ (fsep (Holder.own_val d z.0.4.0) ftrue)) ∷ raw (fact 𝓤 (is_some d.table ≡ true)) ∷ []) ∵
    move ! (1 ∷ []) $ heard ! (is_some d.table ≡ true) (λ some. split ! $ drop ! $ fsplit ! $
    held_out ! d some z.0.4.0 (λ b o h x ex e ws fits. move ! (2 ∷ []) $ drop ! $ fsplit ! $
    let v : D E = record { ptr = block_ptr b o; alloc = d.alloc; value = x } in
    let made : To.Denot = record { ptr = v.ptr; alloc = v.alloc; value = v.value } in
    let w : Val = box_word E h b o in
    box_in E ! v b o x refl refl $ use1 𝓛 (‵ (To.own_val made (w ∷ []))) (id⊢ 𝓤 _) $
    let Γ : List (Item 𝓤) = ‵ (To.own_val made (w ∷ [])) ∷ [] in
    by ! (subst (λ (us : List Val). ent 𝓤 (types.Kit.⋆ 𝓛 Γ) (WpFn 𝓤 𝓛.H 𝓣.C 𝓣.Λ code.function (us ++ []) Post)) (sym ws)
    (qed 𝓛 Γ ∵ enter ! 𝓣.C 𝓣.Λ code.function (word (vptr b o) h ∷ []) _ $
    alloc_all ! (λ ls. pass_all ! refl (word_typed (block_ptr b o) h fits, tt) $
    sets ! (of_opd ! (get_in ! (fld ! refl (stop !)) (sub ! 0 refl (whole !)))) refl (tt, tt) $
    sets ! (of_opd ! (get_in ! (fld ! refl (stop !)) (sub ! 1 refl (whole !)))) refl fits $
    sets ! (of_opd ! (get ! refl)) refl (tt, tt) $
    sets ! (agg ! (and_then ! (get ! refl) (and_then ! (get ! refl) (no_more !)))) refl (box_typed E h b o fits) $
    returns ! (look_at ! 0 refl) $ free_all ! refl $
    suffices ! _ (ends_at 𝓛 F.ended stayed c z w made (tt, tt) (tt, tt)) $ says ! ex $
    nothing ! $ nothing ! $ fjoin ! $ join ! $ nothing ! $ join ! $ done !))))))
