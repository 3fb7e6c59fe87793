pub mod StoryFacts
