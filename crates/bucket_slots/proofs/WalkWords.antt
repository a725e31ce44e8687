-- The names that manual walks of the code use, from one place.
pub use base.Fml.{Fml, GName, Lft, Share, fbor, feq, flft, fobs, fsep, ftrue}
pub use base.Logic.{SProp, emp, ent, ex, guard, id⊢, sep}
pub use contract.BorrowLft.{◌⊑◌}
pub use contract.Lifetimes.{AllOutlive}
pub use contract.Monad.{Fun, fact, fact_i}
pub use denote.Builtin.{RefMutOf, usize}
pub use denote.Exit.{no, yes}
pub use denote.Param.{ArrayAt, bounded, layout, layouts, number, param}
pub use denote.Param.Laws.{Laws, number_array_laws, param_laws}
pub use denote.RattleType.{RattleType, Valss, owns}
pub use denote.Signature.{plain}
pub use denote.Steps.{heard, nothing, only, peeks}
pub use denote.Triple.Clauses.{Clauses, Ended, closing}
pub use denote.Triple.Entry.{on_entry}
pub use denote.Triple.Spec.{Meets, triple_of}
pub use denote.Triple.Table.{entered}
pub use mir.MapTy.{inst_fn}
pub use mir.Val.{Val, of_list, vint, vnil, vptr, vstruct}
pub use prog.Memory.{Memory, align, capped, size, up}
pub use prog.Routine.{Routine}
pub use prog.Wp.{Calls, Env, Loops, Tables, Wp, WpFn, after_seq, at_return}
pub use seplogic.Ra.Ura.{Ura}
pub use sound.WpLaws.{WpFn-mono, fm_of}
pub use types.Logic.{Logic, sem}
pub use types.SemTy.{Body, cells}
