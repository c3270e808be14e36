use Rattle.std.proofs.Common.{◌≡◌, drop, take, map}
use Rattle.element_props.specs.Reads.{Goes}
use Rattle.element_props.specs.Forms.{each_asked, whole_of}
use Rattle.element_props.specs.Props.{prop_at}
use Rattle.element_props.proofs.asking.regexes_prop.Given as goal

-- the patterns so far have been asked for and made
abbrev pub invariant-texts : goal.invariant-texts
invariant-texts g l = record {
  asked : Goes (g.G.Patterns.account l.fn.patterns) (each_asked (prop_at l.places l.name) l.fully (map (λ s. s.now) l.texts))
      (each_asked (prop_at l.places l.name) l.fully (map (λ s. s.now) (drop l.text-index l.texts))) (g.G.Patterns.account l.patterns);
  own : l.regexes.items ≡ map (λ s. s.now) (take l.text-index l.texts);
  around : l.whole.items ≡ whole_of l.fully (map (λ s. s.now) (take l.text-index l.texts));
}
