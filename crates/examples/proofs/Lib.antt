mod ExampleFacts
mod KnownLemmas
mod WrittenLemmas
