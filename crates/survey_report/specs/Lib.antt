pub mod SurveyEngine
