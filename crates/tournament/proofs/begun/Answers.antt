use mathlib.Core.Path.{◌≡◌, refl, ap, ◌∙◌}
use mathlib.Core.Bool.{true, false}
use Prim.Native.Nat.{◌≤◌}
use native.Mathlib.Omega.{arith}
use lib.ListN.{length, take, replicate, length-take, length-replicate}
use Rattle.std.proofs.lemmas.List.{drop-replicate}
use Rattle.tournament.specs.Rule.{begun_of}
use borrow.Author.Rules.{rules}
use Rattle.tournament.proofs.begun.Goals as goal

pub returns : goal.returns
unfolding begun_of
returns c =
    let a = c.args in
    let p : c.copy_from_slice.new.self ≡ take a.count a.priorities = search rules in
    let few : a.count ≤ 128 = c.requires in
    let long : length (take a.count (replicate 128 false)) ≡ a.count = omega (arith, length-take a.count (replicate 128 false), length-replicate 128 false) in
    let m : c.fill.new.self ≡ replicate a.count true = c.fill.ensures.after (λ y e. e) ∙ ap (λ n. replicate n true) long in
    rw (p, m, drop-replicate, drop-replicate) refl
