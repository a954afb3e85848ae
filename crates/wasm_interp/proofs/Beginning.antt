-- A run begins.
use Rattle.std.proofs.Common.{◌≡◌, ◌≤◌, ℕ, zero, suc, List, [], ◌∷◌, ◌++◌, length, drop, refl, sym, ap, ◌∙◌, subst, arith, None, Option}
use Rattle.std.specs.Prelude.{reverse, replicate}
use Rattle.std.proofs.lemmas.List.{length-replicate, append-nil}
use Rattle.faaslet_meaning.specs.declared.module.FuncType.{FuncType}
use Rattle.faaslet_meaning.specs.Memory.{Memory}
use Rattle.faaslet_meaning.specs.Tree.{Tree}
use Rattle.faaslet_meaning.specs.Parse.{part, parts}
use Rattle.faaslet_meaning.specs.ControlRules.{entered}
use Rattle.wasm_interp.specs.declared.functions.Own.{Own}
use Rattle.wasm_interp.specs.declared.thread.Frame.{Frame as Place}
use Rattle.wasm_interp.specs.declared.thread.Thread.{Thread}
use Rattle.wasm_validate.specs.Jumps.{JumpsFit}
use Rattle.wasm_interp.specs.Callees.{OwnIs}
use Rattle.wasm_interp.specs.Stands.{Stands, FramesStand}
use Rattle.wasm_interp.proofs.Entering.{locals_lie}

-- the first frame, on its zeroed locals
pub begins : (memory : Memory) (n : Thread) (own : Own) (t : FuncType) (body : Tree) (globals : List ℕ) (table : List (Option ℕ)) (fuel : ℕ) → n.values ≡ replicate own.locals 0 ++ [] → n.labels ≡ [] → n.frames ≡ []
    → n.here.code ≡ own.code → n.here.jumps ≡ own.jumps → n.here.pc ≡ 0 → n.here.base ≡ 0 → n.here.height ≡ own.locals → n.here.depth ≡ 0 → n.here.arity ≡ own.results
    → n.globals.items ≡ globals → n.table.items ≡ table → n.fuel ≡ fuel → t.params ≡ [] → OwnIs t own.locals body own
    → Stands memory n (record { frame = entered t own.locals body []; callers = []; globals = globals; table = table; memory = memory; fuel = fuel })
begins memory n own t body globals table fuel v l f code jumps pc base height depth arity g b u params is =
    let zeros = replicate {A = ℕ} own.locals 0 in
    let few : n.here.arity ≤ 1 = omega (arith, arity, is.few) in
    let code_is : own.code.now ≡ n.here.code.now = ap (λ r. r.now) (sym code) in
    let jumps_are : own.jumps.now ≡ n.here.jumps.now = ap (λ r. r.now) (sym jumps) in
    let fit : JumpsFit n.here.code.now n.here.jumps.now = subst (λ l. JumpsFit l n.here.jumps.now) code_is (subst (λ l. JumpsFit own.code.now l) jumps_are is.fit) in
    let next : parts (drop n.here.pc n.here.code.now) ≡ part body None ∷ [] = ap (λ k. parts (drop k n.here.code.now)) pc ∙ ap parts (sym code_is) ∙ is.whole in
    record {
      values = v ∙ sym (locals_lie [] own.locals) ∙ sym (append-nil (reverse (reverse [] ++ zeros)));
      frames = record {
        arity = arity ∙ sym is.results;
        few = few;
        jumps = fit;
        base = base;
        height = omega (arith, height, length-replicate {A = ℕ} own.locals 0);
        other = None;
        outer = [];
        next = next;
        own = [];
        lower = [];
        labels_are = l;
        depth = depth;
        labels_stand = tt;
        callers = subst (λ (ps : List Place). FramesStand ps [] []) (sym f) refl;
      };
      kept = record { globals_are = g; table_is = b; memory_is = refl; fuel_is = u };
    }

pub drop_all : {A : Type 0} (xs : List A) (n : ℕ) → n ≡ length xs → drop n xs ≡ []
drop_all [] zero e = refl
drop_all [] (suc n) e = refl
drop_all (x ∷ xs) zero e = absurd (omega arith)
drop_all (x ∷ xs) (suc n) e = drop_all xs n (omega arith)
