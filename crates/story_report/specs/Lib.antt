pub mod StoryText
